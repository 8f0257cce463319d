-- Reports of bounds as powers, and their refusals.
use Rattle.std.proofs.Common.{◌≡◌, Some, Ok, Err, refl, subst, inl}
use Rattle.share_normal.specs.Program.{Kept, source_in}
use Rattle.rules_plan.specs.Read.{program_in}
use Rattle.annot_types.specs.Certificate.{Certificate}
use Rattle.analysis_report.specs.Powers.{ArePowersFitting, ArePowerLines, FirstLeaves}
use Rattle.analysis_report.specs.Told.{PowersRefused}
use Rattle.analysis_report.specs.declared.powers_fault.PowersFault.{PowersFault}
use Rattle.analysis_report.specs.declared.powers_fault.PowersFault.TheVariants as powers
use Rattle.refusals.specs.Ending.{Done, Overflows, InPowers, ending_of}
use Rattle.refusals.specs.Refusals.{names_in}
use Rattle.refusals.specs.declared.answer.Report.{Report}
use Rattle.refusals.specs.declared.answer.Refusal.{Refusal}
use Rattle.refusals.specs.declared.status.Status.TheVariants as s
use Rattle.refusals.specs.declared.status.OverflowAt.TheVariants as o
use Rattle.raml_promise.specs.Outside.{Sound}
use Rattle.raml_promise.specs.Steps.{Prints, goes_on}
use Rattle.raml_promise.specs.Analysis.{PowersRefuse}
use Rattle.raml_promise.specs.Promise.{PrintsPowers}
use Rattle.raml_parts.specs.Parts.{Gives, PowerRefusal}
use Rattle.raml_parts.proofs.Stepping.{step_refused}
use Rattle.raml_parts.proofs.Refusing.{told_refuses}

pub powers_given : (kept : Kept) (c : Certificate) (report : Report) → ending_of report.status ≡ Some Done → ArePowerLines (source_in kept) (program_in kept) c report.text.items →
    Gives (PrintsPowers Sound (source_in kept) (program_in kept) c) (Ok report)
powers_given kept c report status lines = (Done, status, goes_on tt lines.fits lines)

pub powers_denied : (kept other : Kept) (c : Certificate) → other ≡ kept → (fault : PowersFault) → PowersRefused (source_in other) (program_in other) c fault → (refusal : Refusal) →
    PowerRefusal (names_in kept) fault refusal → Gives (PrintsPowers Sound (source_in kept) (program_in kept) c) (Err refusal)
powers_denied kept other c same (powers.Leaves fun meter) h refusal told =
    let P = source_in kept in
    let N = program_in kept in
    step_refused (names_in kept) (PowersRefuse P N c) (λ (done : Unit {0}). ArePowersFitting P N c) (λ done. Prints Sound (ArePowerLines P N c)) refusal
    (told_refuses (names_in kept) (s.Overflow (o.Powers fun meter)) (Overflows (InPowers fun.0 meter)) (PowersRefuse P N c) refl
    (subst (λ (k : Kept). FirstLeaves (source_in k) (program_in k) c fun.0 meter) same h) refusal told)
powers_denied kept other c same powers.NoMemory h refusal told = inl told
