-- The limits of a task's system, and what is told where one is exceeded or a row leaves its range.
use Rattle.std.proofs.Common.{◌≡◌, refl, subst, arith}
use Rattle.std.specs.Prelude.{ℕ, ◌<◌, ◌≤◌, Bool, true, false, cond, not, nat_lt, List, length, None, Some}
use Rattle.std.proofs.lemmas.Bool.Decides.{nat_tests}
use Rattle.std.proofs.lemmas.Option.{get_or_from_slice_get, slice_get_within}
use Rattle.linear_rows.specs.Systems.{LinearSystem}
use Rattle.cost_free.specs.Task.{Task}
use Rattle.annot_types.specs.Program.{Program}
use Rattle.annot_types.specs.Certificate.{Entries, Block}
use Rattle.annot_types.specs.System.{system}
use Rattle.rules_spec.specs.CappedRows.{row_fits}
use Rattle.constraint_gen.specs.Cause.{IsWithin, IsMade, IsCause}
use Rattle.constraint_gen.specs.declared.fault.GenFault.{GenFault}
use Rattle.constraint_gen.specs.declared.fault.GenFault.TheVariants as n
use Rattle.constraint_gen.specs.declared.fault.What.TheVariants.{Indices, Unknowns, Rows}
use Rattle.infer_spec.specs.Generator as g
use Rattle.infer_spec.specs.Generator.{What, Generator, limit_of}
use Rattle.infer_spec.specs.Verifying as v
use Rattle.infer_spec.specs.Verifying.{NoneLeaves}
use Rattle.infer_systems_laws.specs.Analysed.{generator_of}
use Rattle.infer_systems_laws.specs.Laws.{LimitsAreTold}
use Rattle.bound_infer.specs.Cleared.{gen_fault, OfFault}
use Rattle.infer_systems_laws.proofs.FitRows.{row_fits_so, system_row}

module _ (G : Generator) (task : Task) (s : LinearSystem) where
  limits : (a b c : Bool) → G.within task ≡ a → nat_lt 2000 s.unknowns ≡ b → nat_lt 2000 (length s.rows) ≡ c →
      limit_of G task s ≡ cond (not a) (Some g.Indices) (cond b (Some g.Unknowns) (cond c (Some g.Rows) None))
  limits a b c e h k = λ i. cond (not (e i)) (Some g.Indices) (cond (h i) (Some g.Unknowns) (cond (k i) (Some g.Rows) None))

  few : (n : ℕ) → n ≤ 2000 → nat_lt 2000 n ≡ false
  few n h = grind (arith, nat_tests, h)

  many : (n : ℕ) → 2000 < n → nat_lt 2000 n ≡ true
  many n h = grind (arith, nat_tests, h)

  pub no_limit : G.within task ≡ true → s.unknowns ≤ 2000 → length s.rows ≤ 2000 → limit_of G task s ≡ None
  no_limit e h k = limits true false false e (few s.unknowns h) (few (length s.rows) k)

  pub indices : (G.within task ≡ true → ⊥) → limit_of G task s ≡ Some g.Indices
  indices not_within = by (G.within task) refl where
    by : (b : Bool) → G.within task ≡ b → limit_of G task s ≡ Some g.Indices
    by true e = absurd (not_within e)
    by false e = limits false _ _ e refl refl

  pub unknowns : G.within task ≡ true → 2000 < s.unknowns → limit_of G task s ≡ Some g.Unknowns
  unknowns e h = limits true true _ e (many s.unknowns h) refl

  pub rows : G.within task ≡ true → s.unknowns ≤ 2000 → 2000 < length s.rows → limit_of G task s ≡ Some g.Rows
  rows e h k = limits true false true e (few s.unknowns h) (many (length s.rows) k)

module _ (told : LimitsAreTold) (P : Program) (d : ℕ) (earlier : List Block) (task : Task) (scale : ℕ) where
  abbrev S : LinearSystem
  S = system P d earlier task scale

  within_is : IsWithin P d task → (generator_of P d).within task ≡ true
  within_is h = (told P d task).1 h

  -- why there is no system is what is told
  pub caused : (farkas : Entries) (fault : GenFault) → IsCause P d earlier task scale fault → OfFault (gen_fault fault) (v.VectorFault (limit_of (generator_of P d) task S) S farkas)
  caused farkas (n.TooLarge Indices) h = indices (generator_of P d) task S (λ e. h ((told P d task).0 e))
  caused farkas (n.TooLarge Unknowns) h = unknowns (generator_of P d) task S (within_is h.0) h.1
  caused farkas (n.TooLarge Rows) h = rows (generator_of P d) task S (within_is h.0) h.1 h.2
  caused farkas (n.Leaves row) h = (
    no_limit (generator_of P d) task S (within_is h.0) h.1 h.2,
    record {
      row = h.3.row;
      there = h.3.there;
      leaves = λ fit. h.3.leaves (system_row P d earlier task scale row h.3.row h.3.there fit);
      before = λ i other low e. row_fits_so other (h.3.first i other low e);
    },
  )
  caused farkas n.NoMemory h = tt

  -- of a system that is made no row leaves its range, and no limit is exceeded
  module _ (made : LinearSystem) (h : IsMade P d earlier task scale made) where
    pub none_leaves : NoneLeaves made
    none_leaves place r = r.leaves (row_fits_so r.row (subst (λ row. row_fits row ≡ true) (get_or_from_slice_get made.rows place r.row r.row r.there)
        (h.fit place r.row (slice_get_within made.rows place r.row r.there))))

    pub none_exceeded : limit_of (generator_of P d) task S ≡ None
    none_exceeded = no_limit (generator_of P d) task S (within_is h.indices)
        (subst (λ (s : LinearSystem). s.unknowns ≤ 2000) h.is h.unknowns) (subst (λ (s : LinearSystem). length s.rows ≤ 2000) h.is h.rows)
