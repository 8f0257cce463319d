use Rattle.std.proofs.Common.{◌≡◌, ◌*ℤ◌}
use Rattle.simplex_rows.proofs.ManyChanging.{Changing}
use Rattle.simplex_rows.proofs.places.divide.Given as goal

abbrev pub invariant-loop-place : goal.invariant-loop-place
invariant-loop-place l = Changing (λ x y. y *ℤ l.by ≡ x) l.place l.initial.numbers l.numbers
