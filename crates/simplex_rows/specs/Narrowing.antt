-- Fractions as whole numbers over a common denominator.
use Rattle.std.specs.Prelude.{ℕ, ◌/◌, [], ◌∷◌, pos, ◌*ℤ◌}
use Rattle.frac128.specs.Values.{numerator, denominator}
use Rattle.simplex_rows.specs.Entries.{Entries}
use Rattle.simplex_rows.specs.ShortRows.{Wholes}
use Prim.Native.Nat.{◌∣◌}

-- each denominator divides d
abbrev pub DenominatorsDivide : ℕ → Entries → Type 0
DenominatorsDivide d [] = Unit {0}
DenominatorsDivide d ((k, x) ∷ es) = (denominator x ∣ d) × DenominatorsDivide d es

-- the numerators over d
abbrev pub numerators_over : ℕ → Entries → Wholes
numerators_over d [] = []
numerators_over d ((k, x) ∷ es) = (k, numerator x *ℤ pos (d / denominator x)) ∷ numerators_over d es
