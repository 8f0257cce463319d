use Rattle.std.proofs.Common.{◌∙◌, sym, ap, arith}
use Rattle.simple_types.specs.Table.{type_nodes}
use Rattle.simple_types.proofs.Tables.{made_here}
use Rattle.simple_types.proofs.types.Types.spell.Goals as goal

pub returns-in_ok-copy-in-Some-clause-told : goal.returns-in_ok-copy-in-Some-clause-told
returns-in_ok-copy-in-Some-clause-told c = c.in_ok-copy-in-Some.ensures ∙ sym (made_here c.args.self.now.nodes.keys c.args.id)

pub returns-in_ok-copy-in-Some-clause-small : goal.returns-in_ok-copy-in-Some-clause-small
returns-in_ok-copy-in-Some-clause-small c = omega (arith, ap type_nodes (made_here c.args.self.now.nodes.keys c.args.id), c.in-Some.ensures)

pub returns-in-None-clause-large : goal.returns-in-None-clause-large
returns-in-None-clause-large c = omega (arith, ap type_nodes (made_here c.args.self.now.nodes.keys c.args.id), c.in-None.ensures)
