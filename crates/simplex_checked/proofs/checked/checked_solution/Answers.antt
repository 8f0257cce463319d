use Rattle.std.proofs.Common.{◌∙◌, ◌++◌}
use Rattle.simplex_checked.specs.Wholes.{AreTaken}
use Rattle.simplex_checked.proofs.Taking.{proves_parts, front_is, have_wholes}
use Rattle.simplex_checked.proofs.checked.checked_solution.Goals as goal

pub check_least-requires-clause-proves : goal.check_least-requires-clause-proves
check_least-requires-clause-proves c =
    let taken : AreTaken (c.args.x.now ++ c.args.dual.now) c.in_ok-denominator.denominator = rw (c.deref-2.ensures.value, c.in_ok-both.ensures) at c.in_ok-numbers.ensures.taken in
    let numbers = rw (c.deref-2.ensures.value, c.in_ok-both.ensures) at c.in_ok-numbers.ensures.numbers in
    proves_parts c.args.system.now c.args.x.now c.args.dual.now c.requires.least c.least_denominators.ensures c.in_ok-denominator.denominator taken
    c.deref-3.result.now c.split_at.result.0.now c.split_at.result.1.now (c.deref-3.ensures.value ∙ numbers) c.split_at.ensures.front c.split_at.ensures.back

pub solution-requires-clause-wholes : goal.solution-requires-clause-wholes
solution-requires-clause-wholes c =
    let taken : AreTaken (c.args.x.now ++ c.args.dual.now) c.in_ok-denominator.denominator = rw (c.deref-2.ensures.value, c.in_ok-both.ensures) at c.in_ok-numbers.ensures.taken in
    have_wholes c.args.system.now c.args.x.now c.args.dual.now c.requires.least c.least_denominators.ensures c.in_ok-denominator.denominator taken

pub solution-requires-clause-numbers : goal.solution-requires-clause-numbers
solution-requires-clause-numbers c =
    let numbers = rw (c.deref-2.ensures.value, c.in_ok-both.ensures) at c.in_ok-numbers.ensures.numbers in
    front_is c.in_ok-denominator.denominator c.args.x.now c.args.dual.now c.in_ok-numbers.numbers.items c.truncate.new.self.items numbers c.truncate.ensures.items
