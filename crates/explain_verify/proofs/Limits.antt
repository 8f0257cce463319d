-- The line of a refusal that is no want of memory.
use Rattle.std.proofs.Common.{◌≡◌, inl, inr}
use Rattle.bound_infer.specs.declared.refusal.InferFault.{InferFault}
use Rattle.bound_infer.specs.declared.refusal.InferFault.TheVariants as infer
use Rattle.refusal_text.specs.declared.task.Analysed.TheVariants as analysed
use Rattle.refusals.specs.Line.{Names, course_line}
use Rattle.refusals.specs.Refusals.{CourseRefusal, line_text}
use Rattle.refusals.specs.declared.answer.Refusal.{Refusal}
use Rattle.refusals.specs.declared.status.Status.TheVariants as status

pub line_is : (names : Names) (fault : InferFault) (refusal : Refusal) → CourseRefusal analysed.Program names fault refusal → (refusal.status ≡ status.NoMemory → ⊥) →
    line_text refusal.line ≡ course_line analysed.Program names fault
line_is names infer.NoMemory refusal told not = absurd (not told.0)
line_is names (infer.TooLarge task what) refusal (inl wanting) not = absurd (not wanting.0)
line_is names (infer.TooLarge task what) refusal (inr is) not = is.1
line_is names (infer.Leaves place) refusal (inl wanting) not = absurd (not wanting.0)
line_is names (infer.Leaves place) refusal (inr is) not = is.1
