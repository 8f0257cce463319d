-- A system that exceeds no limit.
use Rattle.std.proofs.Common.{◌≡◌, refl, sym, arith}
use Rattle.std.specs.Prelude.{ℕ, ◌≤◌, Bool, true, false, cond, not, nat_lt, length, Some, None}
use Rattle.std.proofs.lemmas.Bool.Decides.{nat_tests}
use Rattle.std.proofs.lemmas.Option.{none-some}
use Rattle.linear_rows.specs.Systems.{LinearSystem}
use Rattle.cost_free.specs.Task.{Task}
use Rattle.infer_spec.specs.Generator as g
use Rattle.infer_spec.specs.Generator.{Generator, limit_of}

-- no limit is exceeded
pub record StaysBelow (G : Generator) (task : Task) (s : LinearSystem) : Type 0 where
  pub within : G.within task ≡ true
  pub unknowns : s.unknowns ≤ 2000
  pub rows : length s.rows ≤ 2000

pub stays_below : (G : Generator) (task : Task) (s : LinearSystem) → limit_of G task s ≡ None → StaysBelow G task s
stays_below G task s e = by (G.within task) (nat_lt 2000 s.unknowns) (nat_lt 2000 (length s.rows)) refl refl refl e where
  few : (n : ℕ) → nat_lt 2000 n ≡ false → n ≤ 2000
  few n h = grind (arith, nat_tests, h)

  by : (a b d : Bool) → G.within task ≡ a → nat_lt 2000 s.unknowns ≡ b → nat_lt 2000 (length s.rows) ≡ d →
      cond (not a) (Some g.Indices) (cond b (Some g.Unknowns) (cond d (Some g.Rows) None)) ≡ None → StaysBelow G task s
  by false b d p q r e = absurd (none-some g.Indices (sym e))
  by true true d p q r e = absurd (none-some g.Unknowns (sym e))
  by true false true p q r e = absurd (none-some g.Rows (sym e))
  by true false false p q r e = record { within = p; unknowns = few s.unknowns q; rows = few (length s.rows) r }
