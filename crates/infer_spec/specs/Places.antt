-- Where a task that is tried is not carried through: a limit that it exceeds, or a number that leaves 128 bits.
use Rattle.std.specs.Prelude.{◌≡◌, ◌<◌, ◌*◌, ℕ, ℤ, pos, ◌*ℤ◌, List, map, slice_get, Some, None, FitsSigned}
use Rattle.std.specs.List.{All}
use Rattle.std.specs.Int.{w128}
use Rattle.linear_rows.specs.Terms.{SparseRow, coefficient}
use Rattle.farkas_check.specs.declared.Verdict.TheVariants.{Leaves}
use Rattle.farkas_check.specs.Checks.{IsVerdict, refuting, proving_least}
use Rattle.simplex_spec.specs.Courses.{Rule, Refuses, rule_by}
use Rattle.cost_free.specs.declared.task.Meter.{Meter}
use Rattle.cost_free.specs.Task as k
use Rattle.cost_free.specs.Task.{Kind, Free, Task}
use Rattle.annot_types.specs.Certificate as c
use Rattle.annot_types.specs.Certificate.{Entries, Sig, Hint, Body, Solved, IsSolved, Block}
use Rattle.simplex_integers.specs.Wholes.{most, ScaleLeaves}
use Rattle.infer_spec.specs.States.{State}
use Rattle.infer_spec.specs.Generator.{What, Analysis, blocker_at, limit_at, system_at}
use Rattle.simplex_integers.specs.Reading.{ReadsSolution, ReadsBoth, ReadsVector, Read}

pub data Place : Type 0 where
  TooLarge : What → Place
  Row : ℕ → Place
  Solve : List (ℕ × ℕ) → ℕ → ℕ → Place
  Scale : ℕ → Place
  Refute : ℕ → Place
  Least : ℕ → Place
  Rescale : ℕ → Place

-- its numbers are of 128 bits
pub record RowFits (row : SparseRow) : Type 0 where
  pub terms : (unknown : ℕ) → FitsSigned w128 (coefficient unknown row.terms)
  pub right : FitsSigned w128 row.right

-- the row at this place is the first that does not fit
pub record RowLeaves (rows : List SparseRow) (place : ℕ) : Type 0 where
  pub row : SparseRow
  pub there : slice_get rows place ≡ Some row
  pub leaves : RowFits row → ⊥
  pub before : (i : ℕ) (other : SparseRow) → i < place → slice_get rows i ≡ Some other → RowFits other

-- t times each number is of 128 bits
abbrev pub EntriesFit : ℕ → Entries → Type 0
EntriesFit t es = All (λ (e : ℕ × ℤ). FitsSigned w128 (pos t *ℤ e.1)) es

abbrev pub HintFits : ℕ → Hint → Type 0
HintFits t (c.Let rs) = All (EntriesFit t) rs
HintFits t (c.Share p) = EntriesFit t p
HintFits t (c.Call multiples) = EntriesFit t multiples

abbrev pub SigFits : ℕ → Sig → Type 0
SigFits t s = EntriesFit t s.args × EntriesFit t s.result

abbrev pub BodyFits : ℕ → Body → Type 0
BodyFits t (Solved sigs hints) = All (SigFits t) sigs × All (All (HintFits t)) hints
BodyFits t body = Unit {0}

-- a solved block with cost of the meter
pub record IsOfMeter (meter : Meter) (block : Block) : Type 0 where
  pub kind : block.task.kind ≡ k.With meter
  pub solved : IsSolved block.body

-- the numbers of the block and the meter's scale, all times t, are of 128 bits
pub record RaisedFits (meter : Meter) (t : ℕ) (st : State) (block : Block) : Type 0 where
  pub numbers : BodyFits t block.body
  pub scale : t * st.scales meter < most

-- the block at this place is the first of the meter where they are not
pub record BlockLeaves (meter : Meter) (t : ℕ) (st : State) (place : ℕ) : Type 0 where
  pub block : Block
  pub there : slice_get st.blocks place ≡ Some block
  pub of_meter : IsOfMeter meter block
  pub leaves : RaisedFits meter t st block → ⊥
  pub before : (i : ℕ) (other : Block) → i < place → slice_get st.blocks i ≡ Some other →
      IsOfMeter meter other → RaisedFits meter t st other

-- nothing is raised for a cost-free task
abbrev pub RescaleLeaves : Kind → ℕ → State → ℕ → Type 0
RescaleLeaves (Free budget fun target) t st place = ⊥
RescaleLeaves (k.With meter) t st place = BlockLeaves meter t st place

-- the order in which places are tried
abbrev pub stage : Place → ℕ
stage (TooLarge what) = 0
stage (Row place) = 1
stage (Solve pivots row column) = 2
stage (Scale entry) = 3
stage (Refute column) = 4
stage (Least column) = 4
stage (Rescale place) = 5

-- the rule of the entering column
abbrev pub rule_of : Analysis → Rule
rule_of A = rule_by A.pick

module _ (A : Analysis) where
  -- the place comes on the task, where none comes before it
  abbrev pub Comes : State → Task → Place → Type 0
  Comes st task (TooLarge what) = limit_at A st task ≡ Some what
  Comes st task (Row place) = RowLeaves (system_at A st task).rows place
  Comes st task (Solve pivots row column) = Refuses (rule_of A) (system_at A st task) pivots row column
  Comes st task (Scale entry) = (d : ℤ) × (ns : List ℤ) × Read (rule_of A) (system_at A st task) d ns × ScaleLeaves d ns entry
  Comes st task (Refute column) = (y : List ℕ) × ReadsVector (rule_of A) (system_at A st task) y
      × IsVerdict (refuting (system_at A st task) (map pos y)) (Leaves column)
  Comes st task (Least column) = (t : ℕ) × (x : List ℕ) × (y : List ℕ) × ReadsBoth (rule_of A) (system_at A st task) t x y
      × IsVerdict (proving_least (system_at A st task) (map pos x) (map pos y) (pos t)) (Leaves column)
  Comes st task (Rescale place) =
      (t : ℕ) × (x : List ℕ) × ReadsSolution (rule_of A) (system_at A st task) t x × RescaleLeaves task.kind t st place

  -- the task is tried, and this place comes first on it
  pub record IsPlace (st : State) (task : Task) (p : Place) : Type 0 where
    pub tried : blocker_at A st task ≡ None
    pub comes : Comes st task p
    pub first : (q : Place) → stage q < stage p → Comes st task q → ⊥

  -- no place comes on the task, or it is not tried
  abbrev pub IsClear : State → Task → Type 0
  IsClear st task = blocker_at A st task ≡ None → (p : Place) → Comes st task p → ⊥
