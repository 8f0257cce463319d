-- What is told of a verification, and how it ends.
use Rattle.std.specs.Prelude.{◌≡◌, ◌≢◌, ◌⊎◌, ℕ, nat_eq, cond, [], ◌++◌, length, map, codes, decimal}
use Rattle.raml_syntax.specs.Tree.{Text, Prog}
use Rattle.call_groups.specs.Groups.{Grouping, IsGrouping}
use Rattle.rules_soundness_laws.specs.Laws.{normal_of}
use Rattle.annot_types.specs.Certificate.{Certificate, outcome, has_work}
use Rattle.cert_json.specs.Told.{IsFile, Cause}
use Rattle.cert_json.specs.declared.whole.JsonFault.{JsonFault}
use Rattle.cert_json.specs.declared.whole.JsonFault.TheVariants as json
use Rattle.cert_check.specs.declared.fault.CertFault.{CertFault}
use Rattle.cert_check.specs.declared.fault.CertFault.TheVariants as check
use Rattle.constraint_gen.specs.declared.fault.What.TheVariants.{Indices}
use Rattle.bound_infer.specs.Inferred.{IsVerified, VerifyCause}
use Rattle.bound_infer.specs.declared.leaves.LeavesAt.TheVariants.{Check}
use Rattle.bound_infer.specs.declared.refusal.InferFault.{InferFault}
use Rattle.bound_infer.specs.declared.refusal.InferFault.TheVariants as infer
use Rattle.bound_infer.specs.declared.refusal.VerifyFault.{VerifyFault}
use Rattle.bound_infer.specs.declared.refusal.VerifyFault.TheVariants as verify
use Rattle.refusal_text.specs.declared.task.Analysed.TheVariants as analysed
use Rattle.refusals.specs.Line.{Names, course_line}
use Rattle.explain_check.specs.Stores.{Store, Holds, Unread, error_line}
use Rattle.explain_check.specs.Checks.{LacksProgram, IsProgramOf}
use Rattle.explain_verify.specs.Told.{Subject, task_in, failing, OfTask, OfFailing, IsTaskAt}
use Rattle.explain_verify.specs.declared.verification.Verification.{Verification}
use Rattle.explain_verify.specs.declared.verification.Verification.TheVariants as v

-- ---- a certificate that does not hold

abbrev pub names_of : Subject → Names
names_of s = record { program = s.program; groups = s.normal.groups }

-- explain: and the line of `raml`
abbrev pub limit_line : Subject → InferFault → Text
limit_line s limit = codes "explain: " ++ course_line analysed.Program (names_of s) limit

abbrev pub LimitIs : Subject → InferFault → Verification → Text → Type 0
LimitIs s limit end report = (end ≡ v.NotAnalysed) × (report ≡ limit_line s limit)

-- what is told of a fault of the check
abbrev pub CheckIs : Subject → CertFault → Verification → Text → Type 0
CheckIs s (check.Shape block) end report =
    (end ≡ v.Fails) × ((found : _) × IsTaskAt s block found × OfTask s found report)
CheckIs s (check.Fails block path index) end report = (end ≡ v.Fails) × OfFailing s (failing s block path.items) report
CheckIs s (check.Leaves block path index) end report = LimitIs s (infer.Leaves (Check block path index)) end report
CheckIs s (check.TooLarge task) end report = LimitIs s (infer.TooLarge task Indices) end report
CheckIs s check.NoMemory end report = ⊥

-- what is told of a fault of a verification
abbrev pub FaultIs : Subject → VerifyFault → Verification → Text → Type 0
FaultIs s (verify.Cert fault) end report = CheckIs s fault end report
FaultIs s (verify.NotRefuted block) end report = (end ≡ v.Fails) × OfTask s (task_in s.done block) report
FaultIs s (verify.TooLarge task what) end report = LimitIs s (infer.TooLarge task what) end report
FaultIs s (verify.Leaves at) end report = LimitIs s (infer.Leaves at) end report
FaultIs s verify.NoMemory end report = ⊥

-- ---- a certificate that holds

abbrev pub functions_text : ℕ → Text
functions_text n = cond (nat_eq n 1) (codes "1 function") (decimal n ++ codes " functions")

-- CERT holds of FILE: bounds up to degree D of FUNCTIONS
abbrev pub line_text : Text → Text → ℕ → Text → Text
line_text name file degree functions =
    name ++ (codes " holds of " ++ (file ++ (codes ": bounds up to degree " ++ (decimal degree
    ++ (codes " of " ++ (functions ++ codes "\n"))))))

abbrev pub holds_line : Subject → Text
holds_line s = line_text s.certificate s.file s.degree (functions_text (length s.program))

-- ---- a certificate for a program

abbrev pub subject_of : Text → Text → Text → Prog → Grouping → Certificate → Subject
subject_of file source name P groups c = record {
  file = file;
  source = source;
  certificate = name;
  program = P;
  normal = normal_of P groups.list;
  degree = c.degree;
  work = has_work c;
  done = map outcome c.blocks;
}

-- what is told: that it holds only where it does, and of a fault only where that is the cause
abbrev pub Told : Subject → Certificate → Verification → Text → Text → Type 0
Told s c v.Holds text report = IsVerified s.normal c × (text ≡ holds_line s) × (report ≡ [])
Told s c v.Refused text report = ⊥
Told s c end text report = (text ≡ []) × ((fault : VerifyFault) × VerifyCause s.normal c fault × FaultIs s fault end report)

pub record CertificateIs (file source name : Text) (P : Prog) (c : Certificate) (end : Verification) (text report : Text) : Type 0 where
  pub groups : Grouping
  pub grouping : IsGrouping P groups
  pub told : Told (subject_of file source name P groups c) c end text report

-- ---- the whole call

abbrev pub most_certificate_bytes : ℕ
most_certificate_bytes = 16777216

-- what is told for a program and the bytes of a file: why they are no certificate, else of the certificate that they are
abbrev pub BytesAre : Text → Text → Text → Prog → Text → Verification → Text → Text → Type 0
BytesAre file source name P bytes end text report =
    ((fault : JsonFault) × (why : Text) × Cause bytes fault × (fault ≢ json.NoMemory)
    × (end ≡ v.Refused) × (text ≡ []) × (report ≡ error_line name why))
    ⊎ ((c : Certificate) × IsFile bytes c × CertificateIs file source name P c end text report)

-- what is told for a program: that the certificate is not read, else of its bytes
abbrev pub ProgramIs : Store → Text → Text → Text → Prog → Verification → Text → Text → Type 0
ProgramIs store file source name P end text report =
    ((end ≡ v.Refused) × (text ≡ []) × Unread store most_certificate_bytes name report)
    ⊎ ((bytes : Text) × Holds store name bytes × BytesAre file source name P bytes end text report)

-- what is told of a call: that there is no typed source, else for its program
abbrev pub CallIs : Store → Text → Text → Verification → Text → Text → Type 0
CallIs store file name end text report =
    ((end ≡ v.Refused) × (text ≡ []) × LacksProgram store file report)
    ⊎ ((source : Text) × (P : Prog) × Holds store file source × IsProgramOf source P × ProgramIs store file source name P end text report)
