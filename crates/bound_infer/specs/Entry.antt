-- The entry of a number, unless it is 0.
use Rattle.std.specs.Prelude.{ℕ, ℤ, pos, cond, [], ◌∷◌}
use Rattle.std.specs.Ordering.{int_eq}
use Rattle.annot_types.specs.Certificate.{Entries}

abbrev pub entry : ℕ → ℤ → Entries
entry place number = cond (int_eq number (pos 0)) [] ((place, number) ∷ [])
