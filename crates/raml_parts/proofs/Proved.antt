-- What is proved of a certificate that was verified.
use Rattle.std.proofs.Common.{◌≡◌, ℕ, sym, ap, subst, ◌∙◌}
use Rattle.std.specs.List.{All, Contains}
use Rattle.raml_syntax.specs.Tree.{Function, Prog}
use Rattle.raml_syntax.specs.Types.{Typed}
use Rattle.raml_syntax.specs.Node.{AllNodes, NumberFits}
use Rattle.normal_spec.specs.Two.{norm}
use Rattle.share_normal.specs.Program.{Kept, source_in, norm_in}
use Rattle.rules_plan.specs.Read.{program_in}
use Rattle.annot_types.specs.Program.{Program}
use Rattle.annot_types.specs.Certificate.{Certificate}
use Rattle.annot_types.specs.System.{Valid}
use Rattle.annot_types.specs.Held.{Line, lines, Held}
use Rattle.rules_soundness_laws.specs.Laws.{normal_of, LinesAreTrue, IsTrue}
use Rattle.normal_program.proofs.Normal.{normal_is}
use Rattle.infer_spec.specs.Good.{AllRefuted, AllLeast}
use Rattle.infer_spec.specs.Lines.{LinesTell}
use Rattle.std.proofs.Common.{Result, Err, true}
use Rattle.annot_types.specs.Certificate.{has_work}
use Rattle.cert_json.specs.Told.{IsComplete}
use Rattle.bound_infer.specs.Inferred.{IsInferred}
use Rattle.raml_words.specs.declared.request.Rule.{Rule}
use Rattle.refusals.specs.Refusals.{names_in}
use Rattle.refusals.specs.declared.answer.Report.{Report}
use Rattle.refusals.specs.declared.answer.Refusal.{Refusal}
use Rattle.raml_promise.specs.Outside.{Sound}
use Rattle.raml_syntax.specs.Read.{program_of}
use Rattle.raml_syntax.specs.declared.program.Program.{Program as TheProgram}
use Rattle.call_groups.specs.Groups.{IsGrouping}
use Rattle.raml_promise.specs.Steps.{Answer, OfNormal, RefusedOf}
use Rattle.refusal_text.specs.declared.task.Analysed.{Analysed}
use Rattle.refusal_text.specs.declared.task.Analysed.TheVariants as analysed
use Rattle.infer_spec.specs.Generator.{Analysis}
use Rattle.raml_parts.specs.Parts.{Gives, Refuses}
use Rattle.raml_parts.proofs.Stepping.{normal_gives, step_goes, step_refused}
use Rattle.raml_promise.specs.Analysis.{analysis, CourseRefuses, IsCourse, OfCourse, IsProved}

pub is_proved : LinesAreTrue → LinesTell → (kept : Kept) → Typed (source_in kept) → All (λ (g : Function). AllNodes NumberFits g.body) (source_in kept) →
    norm_in kept ≡ norm (source_in kept) → (c : Certificate) → Valid (program_in kept) c → AllRefuted (program_in kept) c → IsProved (source_in kept) (program_in kept) c
is_proved are_true tell kept typed numbers same c valid refuted =
    let P = source_in kept in
    let N = program_in kept in
    let normal = normal_is kept same in
    let moved = subst (λ M. Valid M c) normal valid in
    let bounds : (l : Line) → Contains (lines N c) l → IsTrue P l.fun l.meter l.claim =
    subst (λ (M : Program). (l : Line) → Contains (lines M c) l → IsTrue P l.fun l.meter l.claim) (sym normal) (are_true P typed numbers kept.groups.list c moved.held) in
    record {
      valid = valid;
      refuted = refuted;
      lines = record { bounds = bounds; tell = tell N c valid.held refuted };
    }

-- what is given over the code's program is given over the normal form
pub kept_gives : (typed : TheProgram) (kept : Kept) → kept.source ≡ typed → IsGrouping (program_of typed) kept.groups → program_in kept ≡ normal_of (program_of typed) kept.groups.list →
    (Rest : Prog → Program → Answer → Type 0) (r : Result Report Refusal) → Gives (Rest (source_in kept) (program_in kept)) r → Gives (OfNormal (program_of typed) (Rest (program_of typed))) r
kept_gives typed kept source grouping normal Rest r given =
    normal_gives (program_of typed) (Rest (program_of typed)) kept.groups (program_in kept) grouping normal r (subst (λ s. Gives (Rest (program_of s) (program_in kept)) r) source given)

-- a course of the code's program
module _ (whose : Analysed) (kept : Kept) (degree : ℕ) (rule : Rule) (Rest : Certificate → Answer → Type 0) where
  abbrev A : Analysis
  A = analysis (program_in kept) degree rule

  pub course_given : (c : Certificate) → IsInferred A c → IsProved (source_in kept) (program_in kept) c → AllLeast (program_in kept) c →
      (r : Result Report Refusal) → Gives (Rest c) r → Gives (OfCourse Sound whose (source_in kept) (program_in kept) degree rule Rest) r
  course_given c inferred proved least r given =
      step_goes (names_in kept) (RefusedOf whose (CourseRefuses A)) (IsCourse Sound (source_in kept) A) Rest c (record { inferred = inferred; proved = proved; least = least }) r given

  pub course_denied : (refusal : Refusal) → Refuses (names_in kept) (RefusedOf whose (CourseRefuses A)) refusal →
      Gives (OfCourse Sound whose (source_in kept) (program_in kept) degree rule Rest) (Err refusal)
  course_denied refusal h = step_refused (names_in kept) (RefusedOf whose (CourseRefuses A)) (IsCourse Sound (source_in kept) A) Rest refusal h

-- over what it was typed from
module _ (typed : TheProgram) (kept : Kept) (source : kept.source ≡ typed) (degree : ℕ) (rule : Rule) (Rest : Certificate → Answer → Type 0) where
  pub course_goes : (c : Certificate) → IsInferred (analysis (program_in kept) degree rule) c → IsProved (source_in kept) (program_in kept) c → AllLeast (program_in kept) c →
      (r : Result Report Refusal) → Gives (Rest c) r → Gives (OfCourse Sound analysed.Program (program_of typed) (program_in kept) degree rule Rest) r
  course_goes c inferred proved least r given =
      subst (λ s. Gives (OfCourse Sound analysed.Program (program_of s) (program_in kept) degree rule Rest) r) source
      (course_given analysed.Program kept degree rule Rest c inferred proved least r given)

  pub course_refused : (refusal : Refusal) → Refuses (names_in kept) (CourseRefuses (analysis (program_in kept) degree rule)) refusal →
      Gives (OfCourse Sound analysed.Program (program_of typed) (program_in kept) degree rule Rest) (Err refusal)
  course_refused refusal h =
      subst (λ s. Gives (OfCourse Sound analysed.Program (program_of s) (program_in kept) degree rule Rest) (Err refusal)) source
      (course_denied analysed.Program kept degree rule Rest refusal h)

-- the certificate of a course counts work, and is complete
pub counts_work : (N : Program) (degree : ℕ) (rule : Rule) (c : Certificate) → IsInferred (analysis N degree rule) c → has_work c ≡ true
counts_work N degree rule c inferred = ap has_work inferred.ends.is

pub completes : (N : Program) (degree : ℕ) (rule : Rule) (c : Certificate) → IsInferred (analysis N degree rule) c → Held N c → IsComplete c
completes N degree rule c inferred held = record {
  least_degree = held.least_degree;
  most_degree = held.most_degree;
  work = counts_work N degree rule c inferred;
  scales = held.scales;
  shape = λ place block there. (held.blocks place block there).shape;
}
