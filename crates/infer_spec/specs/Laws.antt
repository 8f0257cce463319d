-- What courses are for.
use Rattle.std.specs.Prelude.{◌≡◌, ◌≤◌, ◌<◌, ℕ, ℤ, List, length, slice_get, Some, None}
use Rattle.linear_rows.specs.Systems.{LinearSystem, Refutes}
use Rattle.farkas_check.specs.declared.Verdict.TheVariants.{No}
use Rattle.farkas_check.specs.Checks.{IsVerdict, refuting}
use Rattle.cost_free.specs.declared.task.Meter.{Meter}
use Rattle.cost_free.specs.Task.{Kind, Task}
use Rattle.cost_free.specs.Schedule.{tasks_from}
use Rattle.cost_free.specs.Refused.{Plan, IsRefused}
use Rattle.annot_types.specs.Program.{Program, results, blocker_of}
use Rattle.annot_types.specs.Certificate.{Block, Certificate, has_work}
use Rattle.annot_types.specs.Held.{before, done_before, scale_for}
use Rattle.annot_types.specs.Least.{Refuted, Least}
use Rattle.annot_types.specs.System.{system, IsRefutedBy, Valid}
use Rattle.infer_spec.specs.States.{State, scale_at, raise}
use Rattle.infer_spec.specs.Generator.{What, Generator, Analysis, most_allowed, limit_of, Stands, AreRaised, Generates, system_at, block_at}
use Rattle.simplex_integers.specs.Reading.{ReadsSolution, ReadsVector}
use Rattle.infer_spec.specs.Listed.{listed}
use Rattle.infer_spec.specs.Good.{AllGood, AllLeast, AllRefuted}
use Rattle.infer_spec.specs.Places.{Place, stage, rule_of, IsOfMeter}
use Rattle.infer_spec.specs.Courses.{Finding, Course, StopsAt, EndsAt}
use Rattle.infer_spec.specs.Verifying.{TooLarge, NotRefuted, BlockFault}

-- Where blocks and scales are raised, what was good stays so.
abbrev pub RaisedStayGood : Type 0
RaisedStayGood = (P : Program) (d : ℕ) (st : State) (kind : Kind) (r : ℕ) → 0 < r → AllGood P d st → AllGood P d (raise kind r st)

-- the whole numbers that are read for a task stand for a block that is least over the blocks before it, with their denominator
abbrev pub FoundIsLeast : Type 0
FoundIsLeast =
    (A : Analysis) → Generates A → (st : State) (task : Task) → Stands A st task →
    (t : ℕ) (x : List ℕ) → ReadsSolution (rule_of A) (system_at A st task) t x →
    (least : Least A.program A.degree st.blocks (scale_at st.scales task.kind) (block_at A st task x)) × (least.t ≡ t)

-- and where a vector is read, the task is refuted
abbrev pub FoundIsRefuted : Type 0
FoundIsRefuted =
    (A : Analysis) → Generates A → (st : State) (task : Task) → Stands A st task →
    (y : List ℕ) → ReadsVector (rule_of A) (system_at A st task) y →
    IsRefutedBy (system_at A st task) (listed 0 y) × Refuted A.program A.degree st.blocks task (scale_at st.scales task.kind)

-- every block of a course is good at the scales that are then held
abbrev pub CoursesAreGood : Type 0
CoursesAreGood =
    (A : Analysis) → Generates A → (findings : List Finding) (st : State) → Course A findings st →
    ((meter : Meter) → 0 < st.scales meter) × AllGood A.program A.degree st

-- so the certificate of a course is valid, its solved blocks are least, and its refuted tasks are refuted
pub record Certifies (P : Program) (c : Certificate) : Type 0 where
  pub valid : Valid P c
  pub least : AllLeast P c
  pub refuted : AllRefuted P c

abbrev pub CoursesCertify : Type 0
CoursesCertify = (A : Analysis) → Generates A → 1 ≤ A.degree → A.degree ≤ 4 → (c : Certificate) → EndsAt A c → Certifies A.program c

-- what the schedule of a certificate goes by
abbrev pub schedule_of : Program → Certificate → Plan
schedule_of P c = record { results = results P; groups = P.groups; degree = c.degree; work = has_work c }

-- At no place does the schedule refuse to go on, and no task that is tried exceeds a limit over the blocks before it.
pub record StaysWithin (A : Analysis) (c : Certificate) : Type 0 where
  pub goes_on : (place : ℕ) → IsRefused most_allowed (schedule_of A.program c) (done_before c place) → ⊥
  pub limits : (place : ℕ) (block : Block) → slice_get c.blocks place ≡ Some block →
      blocker_of A.program block.task (done_before c place) ≡ None →
      limit_of A.generator block.task (system A.program c.degree (before c place) block.task (scale_for c block.task.kind)) ≡ None

abbrev pub CoursesStayWithin : Type 0
CoursesStayWithin = (A : Analysis) → Generates A → (c : Certificate) → EndsAt A c → StaysWithin A c

-- So none of its refuted blocks exceeds a limit.
abbrev pub NoneTooLarge : Type 0
NoneTooLarge =
    (A : Analysis) → Generates A → (c : Certificate) → EndsAt A c →
    (place : ℕ) (what : What) → BlockFault A.program A.generator c place (TooLarge what) → ⊥

-- No vector of a valid certificate is refused, where the check never refuses what refutes.
abbrev pub NeverNo : Type 0
NeverNo = (s : LinearSystem) (y : List ℤ) (column : ℕ) → Refutes s y → IsVerdict (refuting s y) (No column) → ⊥

abbrev pub NoneUnrefuted : Type 0
NoneUnrefuted = NeverNo → (P : Program) (G : Generator) (c : Certificate) → Valid P c → (place : ℕ) → BlockFault P G c place NotRefuted → ⊥

-- a course ends in one certificate
abbrev pub OneCertificate : Type 0
OneCertificate = (A : Analysis) → Generates A → (c other : Certificate) → EndsAt A c → EndsAt A other → c ≡ other

-- and then it comes to no place
abbrev pub EndsOrStops : Type 0
EndsOrStops = (A : Analysis) → Generates A → (c : Certificate) (st : State) (task : Task) (p : Place) → EndsAt A c → StopsAt A st task p → ⊥

-- the places to which it comes are on one task and of one stage
abbrev pub OnePlace : Type 0
OnePlace =
    (A : Analysis) → Generates A → (st other : State) (task last : Task) (p q : Place) → StopsAt A st task p → StopsAt A other last q →
    (st ≡ other) × (task ≡ last) × (stage p ≡ stage q)

-- a meter of which no block is solved has the scale 1
abbrev pub ScalesBegin : Type 0
ScalesBegin =
    (A : Analysis) → (findings : List Finding) (st : State) → Course A findings st → (meter : Meter) →
    ((place : ℕ) (block : Block) → slice_get st.blocks place ≡ Some block → IsOfMeter meter block → ⊥) → st.scales meter ≡ 1

-- a course has no more blocks than there are tasks that may be tried
abbrev pub CoursesEnd : Type 0
CoursesEnd =
    (A : Analysis) (findings : List Finding) (st : State) → Course A findings st →
    length st.blocks ≤ length (tasks_from (results A.program) A.degree A.work 0 A.program.groups)

-- What refutes a system refutes it where its right sides are raised.
abbrev pub RaisedRowsAreRefuted : Type 0
RaisedRowsAreRefuted = (s raised : LinearSystem) (n : ℕ) → 0 < n → AreRaised n s raised → (y : List ℤ) → Refutes s y → Refutes raised y
