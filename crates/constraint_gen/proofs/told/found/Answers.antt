use Rattle.std.proofs.Common.{◌≡◌, ◌++◌, ◌∙◌, rules, arith}
use Rattle.constraint_gen.specs.Numbers.{numbers, entry}
use Rattle.constraint_gen.proofs.Telling.{entries_next}
use Rattle.constraint_gen.proofs.told.found.Goals as goal

pub loop-place-preserved : goal.loop-place-preserved
loop-place-preserved c =
    let so_far = c.loop-place.invariant in
    let place = c.loop-place.place in
    let one : c.append.new.found.items ≡ c.loop-place.made.items ++ entry place (numbers c.args.solution.now c.loop-place.next) = search rules in (
      one ∙ (λ i. so_far.0 i ++ entry place (numbers c.args.solution.now (so_far.1 i))) ∙ entries_next (numbers c.args.solution.now) c.args.next.now place,
      omega (arith, so_far.1),
    )
