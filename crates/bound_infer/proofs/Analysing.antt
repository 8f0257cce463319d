-- What is said of an analysis that goes on, at its program, its degree and its rule.
use Rattle.std.proofs.Common.{◌≡◌, ◌∙◌, ℕ, List, Option, sym, subst}
use Rattle.std.specs.Fn.{Shared}
use Rattle.std.specs.Borrow.{Bor}
use Rattle.frac128.specs.declared.Frac.{Frac}
use Rattle.share_normal.specs.Program.{Kept}
use Rattle.infer_spec.specs.States.{State}
use Rattle.bound_infer.specs.After.{IsAfter}
use Rattle.bound_infer.specs.Cursor.{IsAnalysisOf, IsSame}
use Rattle.bound_infer.specs.Keeping.{analysis_in, ByEach}
use Rattle.bound_infer.specs.Pivots.{left}
use Rattle.bound_infer.specs.declared.cursor.Inference.{Inference}
use Rattle.bound_infer.specs.declared.progress.Progress.{Progress}

module _ {F : Type 0} (program : Kept) (degree : ℕ) (rule : F) (old : Inference F) (is : IsAnalysisOf program degree rule old) where
  pub still : (new : Inference F) → IsSame old new → IsAnalysisOf program degree rule new
  still new same = record { program_is = same.program_is ∙ is.program_is; degree_is = same.degree_is ∙ is.degree_is; rule_is = same.rule_is ∙ is.rule_is }

  pub said : (Says : Kept → ℕ → F → Type 0) → Says old.program.now old.degree old.chooser.now → Says program degree rule
  said Says h =
      subst (λ r. Says program degree r) is.rule_is
      (subst (λ d. Says program d old.chooser.now) is.degree_is (subst (λ p. Says p old.degree old.chooser.now) is.program_is h))

  pub said_of_it : (Says : Kept → ℕ → F → Type 0) → Says program degree rule → Says old.program.now old.degree old.chooser.now
  said_of_it Says h =
      subst (λ r. Says old.program.now old.degree r) (sym is.rule_is)
      (subst (λ d. Says old.program.now d rule) (sym is.degree_is) (subst (λ p. Says p degree rule) (sym is.program_is) h))

  -- a step with what is left of a budget
  pub steps_on : (g : Shared F (Bor (List Frac) × Unit {0}) (Option ℕ)) (most budget : Option ℕ) (used : ℕ) → most ≡ left budget used → (st new : State) (progress : Progress) →
      ByEach g old.chooser.now (λ pick. IsAfter (analysis_in old.program.now old.degree pick) most st new progress) → ByEach g rule (λ pick. IsAfter (analysis_in program degree pick) (left budget used) st new progress)
  steps_on g most budget used e st new progress h pick by =
      subst (λ m. IsAfter (analysis_in program degree pick) m st new progress) e
      (said (λ p d r. ByEach g r (λ pick. IsAfter (analysis_in p d pick) most st new progress)) h pick by)
