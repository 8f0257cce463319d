-- Why a declared bound is not decided: there are too many rows, or a number leaves 128 bits.
use Rattle.std.specs.Prelude.{◌≡◌, ◌≤◌, ◌<◌, ◌⊎◌, ◌*◌, ℕ, ℤ, pos, unsigned_abs, List, map, length, Option, Some}
use Rattle.farkas_check.specs.declared.Verdict.TheVariants.{Leaves}
use Rattle.farkas_check.specs.Checks.{IsVerdict, refuting}
use Rattle.simplex_spec.specs.Courses.{Refuses, rule_by}
use Rattle.cost_free.specs.Task.{Task}
use Rattle.annot_types.specs.Program.{Program}
use Rattle.annot_types.specs.Certificate.{Certificate}
use Rattle.annot_types.specs.Held.{before, scale_of, scale_for}
use Rattle.annot_types.specs.System.{system}
use Rattle.simplex_integers.specs.Wholes.{most, ScaleLeaves}
use Rattle.simplex_integers.specs.Reading.{ReadsSolution, ReadsVector}
use Rattle.infer_spec.specs.Generator.{most_allowed}
use Rattle.infer_spec.specs.Places.{RowLeaves, BlockLeaves}
use Rattle.simplex_checked.specs.Alone.{ReadAlone}
use Rattle.rules_systems_laws.specs.Laws.{told}
use Rattle.cert_check.specs.Fault as f
use Rattle.other_blocks.specs.Leaving.{state_before, NoneSolved}
use Rattle.other_blocks.specs.Other.{OtherFinds}
use Rattle.bound_file.specs.Lines.{Line, Coefficient, numerator_at}
use Rattle.bound_contract.specs.System.{count}
use Rattle.bound_contract.specs.Kept.{system_there}

pub data Place : Type 0 where
  Row : ℕ → Place
  TooLarge : Place
  Right : ℕ → Place
  Solve : List (ℕ × ℕ) → ℕ → ℕ → Place
  Scale : ℕ → Place
  Rescale : ℕ → Place
  Check : List ℕ → ℕ → Place
  Refute : ℕ → Place

-- The numerator at this position, times the scale, leaves 128 bits, and at no lesser position does.
pub record RightLeaves (bound : List Coefficient) (count scale position : ℕ) : Type 0 where
  pub inside : position < count
  pub leaves : most ≤ numerator_at bound position * scale
  pub before : (k : ℕ) → k < position → numerator_at bound k * scale < most

-- the order in which places are tried
abbrev pub stage : Place → ℕ
stage (Row row) = 0
stage TooLarge = 1
stage (Right position) = 2
stage (Solve pivots row column) = 3
stage (Scale entry) = 4
stage (Refute column) = 5
stage (Rescale block) = 5
stage (Check path index) = 6

module _ (P : Program) (c : Certificate) (place : ℕ) (task : Task) (line : Line) (pick : List ℤ → ℤ → Option ℕ) where
  -- A number of a solved block of the meter before the place, times t, leaves 128 bits, or the meter's scale does,
  -- which is told at the first such block; where there is none, at the place itself.
  abbrev pub RescaleLeaves : ℕ → ℕ → Type 0
  RescaleLeaves t block = BlockLeaves line.meter t (state_before c place) block
      ⊎ (NoneSolved line.meter (before c place) × (block ≡ place) × (most ≤ t * unsigned_abs (scale_of c line.meter)))

  abbrev pub Comes : Place → Type 0
  Comes (Row row) = RowLeaves (system P c.degree (before c place) task (scale_for c task.kind)).rows row
  Comes TooLarge = let s = system_there P c place task line in most_allowed < length s.rows
  Comes (Right position) =
      RightLeaves line.bound (count P c.degree (before c place) task (scale_for c task.kind) line) (scale_for c task.kind) position
  Comes (Solve pivots row column) = Refuses (rule_by pick) (system_there P c place task line) pivots row column
  Comes (Scale entry) = (d : ℤ) × (ns : List ℤ) × ReadAlone (rule_by pick) (system_there P c place task line) d ns × ScaleLeaves d ns entry
  Comes (Rescale block) =
      (t : ℕ) × (x : List ℕ) × ReadsSolution (rule_by pick) (system_there P c place task line) t x × RescaleLeaves t block
  Comes (Check path index) = (t : ℕ) × (x : List ℕ) × ReadsSolution (rule_by pick) (system_there P c place task line) t x
      × OtherFinds P c t (told P c.degree (before c place) task x) (Some (f.Leaves place path index))
  Comes (Refute column) = (y : List ℕ) × ReadsVector (rule_by pick) (system_there P c place task line) y
      × IsVerdict (refuting (system_there P c place task line) (map pos y)) (Leaves column)

  -- The place comes, and none that is tried before it.
  pub record IsFirst (p : Place) : Type 0 where
    pub comes : Comes p
    pub first : (q : Place) → stage q < stage p → Comes q → ⊥

  abbrev pub IsClear : Type 0
  IsClear = (p : Place) → Comes p → ⊥
