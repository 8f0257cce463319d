use Rattle.std.proofs.Common.{◌≡◌, [], ◌<◌, length, rules}
use Rattle.rules_walk.specs.Signed.{front}
use Rattle.rules_walk.proofs.Counting.{changed_at}
use Rattle.rules_walk.proofs.tables.forget.Goals as goal

pub returns-then-function-len : goal.returns-then-function-len
returns-then-function-len c =
    let low : c.args.function < length c.args.uses.now.items = search rules in
    let rest : c.pop.new.self.items ≡ front c.index_mut.result.now.items = search rules in
    changed_at (λ us. us.items) front c.args.uses.now.items c.args.function c.index_mut.result.now c.pop.new.self [] low
    c.index_mut.ensures.value rest
