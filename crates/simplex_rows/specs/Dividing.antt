-- Numbers that are all divided.
use Rattle.std.specs.Prelude.{◌≡◌, ℕ, [], ◌∷◌}
use Rattle.frac128.specs.declared.Frac.{Frac}
use Rattle.frac128.specs.Values.{IsQuotient}
use Rattle.simplex_rows.specs.Entries.{Entries}

-- r has the column of e, and its number over by
abbrev pub IsDivided : Frac → ℕ × Frac → ℕ × Frac → Type 0
IsDivided by e r = (r.0 ≡ e.0) × IsQuotient e.1 by r.1

-- one by one, rs is es over by
abbrev pub AreQuotients : Frac → Entries → Entries → Type 0
AreQuotients by [] [] = Unit {0}
AreQuotients by [] (r ∷ rs) = ⊥
AreQuotients by (e ∷ es) [] = ⊥
AreQuotients by (e ∷ es) (r ∷ rs) = IsDivided by e r × AreQuotients by es rs
