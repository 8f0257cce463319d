-- Certificates: of the course of an analysis, and of a file.
use Rattle.std.specs.Prelude.{◌≡◌, ◌≤◌, ◌⊎◌, ℕ, ℤ, List, Option, Some}
use Rattle.raml_syntax.specs.Tree.{Text, Prog}
use Rattle.raml_words.specs.declared.request.Rule.{Rule}
use Rattle.raml_words.specs.declared.request.Rule.TheVariants as rule
use Rattle.annot_types.specs.Program.{Program}
use Rattle.annot_types.specs.Certificate.{Certificate}
use Rattle.annot_types.specs.System.{Valid}
use Rattle.infer_spec.specs.Generator.{Analysis, Indices}
use Rattle.infer_spec.specs.States.{State}
use Rattle.infer_spec.specs.Places as p
use Rattle.infer_spec.specs.Places.{stage}
use Rattle.infer_spec.specs.Courses.{StopsAt}
use Rattle.infer_spec.specs.Verifying as v
use Rattle.infer_spec.specs.Good.{AllLeast, AllRefuted}
use Rattle.infer_systems_laws.specs.Analysed.{analysis_of}
use Rattle.simplex_checked.specs.Rules.{least_pick, greatest_pick}
use Rattle.cert_json.specs.Told.{IsFile, RefusedBy}
use Rattle.cert_check.specs.Fault as f
use Rattle.cert_check.specs.Finds as check
use Rattle.bound_infer.specs.Inferred.{IsInferred, LeavesInCheck, IsVerified, VectorFault, TaskFault}
use Rattle.analysis_report.specs.Lines.{LinesHold}
use Rattle.analysis_report.specs.Powers.{FirstLeaves}
use Rattle.refusals.specs.Ending.{Ending, Certified, Json, Check, NotRefuted, TooLarge, Overflows, OnTask, InCheck, InPowers}
use Rattle.refusals.specs.Line.{no_names}
use Rattle.raml_promise.specs.Outside.{Side, Also, Store}
use Rattle.raml_promise.specs.Steps.{Answer, Step, Test, RefusedOf, OfFile, names_of}
use Rattle.refusal_text.specs.declared.plain.Which.TheVariants as w
use Rattle.refusal_text.specs.declared.task.Analysed.{Analysed}

-- the column that a rule answers for gains
abbrev pub pick_of : Rule → List ℤ → ℤ → Option ℕ
pick_of rule.Least = least_pick
pick_of rule.Greatest = greatest_pick

-- the analysis of a program in normal form, for ticks, cells and work
abbrev pub analysis : Program → ℕ → Rule → Analysis
analysis N degree rule = analysis_of N degree (pick_of rule)

-- Why a course has no certificate: it comes to a task that is too large, or to a place where a number leaves 128 bits;
-- or it ends, and a total does in the check of its certificate.
abbrev pub CourseRefuses : Analysis → Ending → Type 0
CourseRefuses A (TooLarge task what) = (st : State) × StopsAt A st task (p.TooLarge what)
CourseRefuses A (Overflows (OnTask task place)) = (1 ≤ stage place) × ((st : State) × StopsAt A st task place)
CourseRefuses A (Overflows (InCheck block path index)) = LeavesInCheck A block path index
CourseRefuses A _ = ⊥

-- What is proved of each certificate whose lines are printed. It is valid: solved blocks hold, and the vector of each
-- refuted block refutes its system. So no annotation holds for the task of a refuted block. And what its lines say is
-- true.
pub record IsProved (P : Prog) (N : Program) (c : Certificate) : Type 0 where
  pub valid : Valid N c
  pub refuted : AllRefuted N c
  pub lines : LinesHold P N c

-- The course ends in this certificate. Its solved blocks are least.
pub record IsCourse (side : Side) (P : Prog) (A : Analysis) (c : Certificate) : Type 0 where
  pub inferred : IsInferred A c
  pub proved : Also side (IsProved P A.program c)
  pub least : Also side (AllLeast A.program c)

-- The course of the analysis of a program: that of a call, or one to compare it with.
abbrev pub OfCourse : Side → Analysed → Prog → Program → ℕ → Rule → (Certificate → Answer → Type 0) → Answer → Type 0
OfCourse side whose P N degree rule Rest =
    Step (names_of P N) (RefusedOf whose (CourseRefuses (analysis N degree rule))) (IsCourse side P (analysis N degree rule)) Rest

-- Why bounds are not written as powers: the first power form that leaves 128 bits.
abbrev pub PowersRefuse : Prog → Program → Certificate → Ending → Type 0
PowersRefuse P N c (Overflows (InPowers f meter)) = FirstLeaves P N c f meter
PowersRefuse P N c _ = ⊥

-- Why bytes are no certificate.
abbrev pub TextRefuses : List ℕ → Ending → Type 0
TextRefuses bytes (Certified (Json fault)) = RefusedBy bytes fault
TextRefuses bytes _ = ⊥

-- A file is JSON of the form of a certificate.
abbrev pub OfCertificate : Side → Store → Text → (Certificate → Answer → Type 0) → Answer → Type 0
OfCertificate side store file Rest = OfFile side store w.Certificate file (λ bytes. Step no_names (TextRefuses bytes) (IsFile bytes) Rest)

-- Why a certificate is not verified: the first fault of the check; and where it has none, the first of the vectors.
abbrev pub CheckRefuses : Program → Certificate → Ending → Type 0
CheckRefuses N c (Certified (Check (f.Shape block))) = check.FirstFault N c (Some (f.Shape block))
CheckRefuses N c (Certified (Check (f.Fails block path index))) = check.FirstFault N c (Some (f.Fails block path index))
CheckRefuses N c (Certified (NotRefuted block)) = VectorFault N c block v.NotRefuted
CheckRefuses N c (TooLarge task what) =
    (check.FirstFault N c (Some (f.TooLarge task)) × (what ≡ Indices)) ⊎ TaskFault N c task (v.TooLarge what)
CheckRefuses N c (Overflows (InCheck block path index)) = check.FirstFault N c (Some (f.Leaves block path index))
CheckRefuses N c (Overflows (OnTask task (p.Row row))) = TaskFault N c task (v.Row row)
CheckRefuses N c (Overflows (OnTask task (p.Refute column))) = TaskFault N c task (v.Refute column)
CheckRefuses N c _ = ⊥

-- The certificate is held, within the limits, and no number leaves 128 bits; and its vectors refute.
pub record IsChecked (side : Side) (P : Prog) (N : Program) (c : Certificate) : Type 0 where
  pub verified : IsVerified N c
  pub proved : Also side (IsProved P N c)

-- The check of a certificate for a program.
abbrev pub OfCheck : Side → Prog → Program → Certificate → (Answer → Type 0) → Answer → Type 0
OfCheck side P N c Rest = Test (names_of P N) (CheckRefuses N c) (IsChecked side P N c) Rest
