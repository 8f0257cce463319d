-- An analysis that goes on task by task.
use Rattle.std.specs.Prelude.{◌≡◌, ◌≤◌, ℕ, List, Option}
use Rattle.std.specs.Fn.{Shared}
use Rattle.std.specs.Borrow.{Bor}
use Rattle.frac128.specs.declared.Frac.{Frac}
use Rattle.share_normal.specs.Program.{Kept}
use Rattle.simplex.specs.Choosing.{IsChooser}
use Rattle.simplex_checked.specs.Choosing.{AnswersByOne}
use Rattle.rules_plan.specs.Read.{program_in, AreKept}
use Rattle.infer_systems_laws.specs.Tried.{IsOrdered}
use Rattle.bound_infer.specs.Keeping.{state_of, analysis_in, Keeps, ByEach}
use Rattle.bound_infer.specs.After.{Reached}
use Rattle.bound_infer.specs.declared.cursor.Inference.{Inference}

-- it analyses this program at this degree, by this rule
pub record IsAnalysisOf {F : Type 0} (program : Kept) (degree : ℕ) (rule : F) (inference : Inference F) : Type 0 where
  pub program_is : inference.program.now ≡ program
  pub degree_is : inference.degree ≡ degree
  pub rule_is : inference.chooser.now ≡ rule

-- and still does
abbrev pub IsSame : {F : Type 0} → Inference F → Inference F → Type 0
IsSame old new = IsAnalysisOf old.program.now old.degree old.chooser.now new

-- What was carried through so far is a course of the analysis, and the tables and plans that are kept are those of its blocks.
pub record IsOnCourse {F : Type 0} (g : Shared F (Bor (List Frac) × Unit {0}) (Option ℕ)) (inference : Inference F) : Type 0 where
  pub least_degree : 1 ≤ inference.degree
  pub most_degree : inference.degree ≤ 4
  pub chooses : IsChooser g inference.chooser.now
  pub answers : AnswersByOne g inference.chooser.now
  pub ordered : IsOrdered (program_in inference.program.now)
  pub keeps : Keeps inference.program.now inference.degree inference.run
  pub kept : AreKept (program_in inference.program.now) inference.kept
  pub reached : ByEach g inference.chooser.now
      (λ pick. Reached (analysis_in inference.program.now inference.degree pick) (state_of inference.run))
