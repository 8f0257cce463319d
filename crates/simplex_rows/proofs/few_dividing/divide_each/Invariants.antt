use Rattle.std.proofs.Common.{◌≡◌}
use Rattle.simplex_rows.proofs.FewDividing.{divided_to}
use Rattle.simplex_rows.proofs.few_dividing.divide_each.Given as goal

abbrev pub invariant-loop-place : goal.invariant-loop-place
invariant-loop-place l = l.numbers ≡ divided_to l.place l.by l.initial.numbers
