use Rattle.std.proofs.Common.{rules, ◌≡◌}
use Rattle.simple_types.specs.Table.{same_node}
use Rattle.simple_types.specs.declared.types.Node.{Node}
use Rattle.simple_types.specs.contracts.types.NodePartialEq as node
use Rattle.simple_types.proofs.Tables.{placed_is}
use Rattle.simple_types.proofs.types.Types.place.Goals as goal

pub returns-in-Ok-try_from : goal.returns-in-Ok-try_from
returns-in-Ok-try_from c =
    let alike : (a b : Node) → node.TheImpl.eq-value.it a b ≡ same_node a b = λ a b. search rules in
    let number : c.in-Ok-try_from.place ≡ c.in-Ok.place = search rules in
    placed_is _ alike c.args.self.now.nodes.keys c.insert_full.new.self.keys c.args.node c.in-Ok.place c.in-Ok-try_from.place c.in-Ok.ensures.keys c.in-Ok.ensures.index number
