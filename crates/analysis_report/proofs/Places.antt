-- The first of the lines whose powers do not fit.
use Rattle.std.proofs.Common.{◌≡◌, ◌<◌, ◌⊎◌, inl, inr, ⊎_elim, ℕ, refl, sym, arith}
use Rattle.std.proofs.lemmas.Bool.Decides.{nat_tests}
use Rattle.raml_syntax.specs.Tree.{Prog}
use Rattle.bound_compare.proofs.Made.{fits_or_leaves}
use Rattle.cost_free.specs.declared.task.Meter.{Meter}
use Rattle.cost_free.specs.declared.task.Meter.TheVariants.{Ticks, Cells, Work}
use Rattle.annot_types.specs.Program.{Program}
use Rattle.annot_types.specs.Certificate.{Certificate}
use Rattle.analysis_report.specs.Floors.{rank}
use Rattle.analysis_report.specs.Powers.{FitsAt, LeavesAt, ArePowersFitting, FirstLeaves}

module _ (P : Prog) (N : Program) (c : Certificate) where
  at_one_place : (f : ℕ) (meter : Meter) → FitsAt P N c f meter → LeavesAt P N c f meter → ⊥
  at_one_place f meter fits leaves = fits_or_leaves leaves.den leaves.terms (fits leaves.fun leaves.den leaves.terms leaves.there leaves.flat leaves.claims) leaves.leaves

  -- where all fit, none leaves
  pub fitting_leaves_none : (f : ℕ) (meter : Meter) → FirstLeaves P N c f meter → ArePowersFitting P N c → ⊥
  fitting_leaves_none f meter first all = at_one_place f meter (all f meter first.counted) first.leaves

  less_or_more : (a b : ℕ) → (a < b) ⊎ ((b < a) ⊎ (a ≡ b))
  less_or_more a b = grind (arith, nat_tests)

  same_rank : (m k : Meter) → rank m ≡ rank k → m ≡ k
  same_rank Ticks Ticks e = refl
  same_rank Cells Cells e = refl
  same_rank Work Work e = refl
  same_rank Ticks Cells e = absurd (omega (arith, e))
  same_rank Ticks Work e = absurd (omega (arith, e))
  same_rank Cells Ticks e = absurd (omega (arith, e))
  same_rank Cells Work e = absurd (omega (arith, e))
  same_rank Work Ticks e = absurd (omega (arith, e))
  same_rank Work Cells e = absurd (omega (arith, e))

  -- there is one first place
  pub one_leaves_first : (f g : ℕ) (m k : Meter) → FirstLeaves P N c f m → FirstLeaves P N c g k → (f ≡ g) × (m ≡ k)
  one_leaves_first f g m k one other = ⊎_elim
      (λ less. absurd (at_one_place f m (other.before f m one.counted (inl less)) one.leaves))
      (λ rest. ⊎_elim
      (λ more. absurd (at_one_place g k (one.before g k other.counted (inl more)) other.leaves))
      (λ same. (same, at_meter same)) rest)
      (less_or_more f g)
    where
      at_meter : f ≡ g → m ≡ k
      at_meter same = ⊎_elim
          (λ less. absurd (at_one_place f m (other.before f m one.counted (inr (same, less))) one.leaves))
          (λ rest. ⊎_elim
          (λ more. absurd (at_one_place g k (one.before g k other.counted (inr (sym same, more))) other.leaves))
          (λ e. same_rank m k e) rest)
          (less_or_more (rank m) (rank k))
