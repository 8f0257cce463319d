-- Which place comes first, and where none comes.
use Rattle.std.specs.Prelude.{◌≡◌, ◌≤◌, ◌<◌, ◌*◌, ℕ, ℤ, pos, List, map, length, slice_get, Option, None, Some}
use Rattle.linear_rows.specs.Terms.{SparseRow}
use Rattle.linear_rows.specs.Systems.{LinearSystem, IsSystem}
use Rattle.farkas_check.specs.declared.Verdict.TheVariants.{Leaves}
use Rattle.farkas_check.specs.Checks.{IsVerdict, refuting}
use Rattle.simplex_spec.specs.Courses.{Refuses, rule_by}
use Rattle.cost_free.specs.Task.{Task}
use Rattle.annot_types.specs.Program.{Program}
use Rattle.annot_types.specs.Certificate.{Certificate}
use Rattle.annot_types.specs.Held.{before, scale_for}
use Rattle.annot_types.specs.System.{system}
use Rattle.simplex_integers.specs.Wholes.{most, ScaleLeaves}
use Rattle.infer_spec.specs.Generator.{most_allowed}
use Rattle.infer_spec.specs.Places.{RowFits, RowLeaves}
use Rattle.simplex_integers.specs.Reading.{VectorIsFine, IsPassed}
use Rattle.simplex_checked.specs.Alone.{ReadAlone, SolutionFits}
use Rattle.rules_systems_laws.specs.Laws.{told}
use Rattle.cert_check.specs.Fault as f
use Rattle.other_blocks.specs.Other.{OtherFinds}
use Rattle.bound_file.specs.Lines.{Line, numerator_at}
use Rattle.bound_contract.specs.System.{count}
use Rattle.bound_contract.specs.Kept.{system_there}
use Rattle.bound_contract.specs.Places as p
use Rattle.bound_contract.specs.Places.{RightLeaves, RescaleLeaves, IsFirst, IsClear}

module _ (P : Program) (c : Certificate) (place : ℕ) (task : Task) (line : Line) (pick : List ℤ → ℤ → Option ℕ) where
  abbrev pub own : LinearSystem
  own = system P c.degree (before c place) task (scale_for c task.kind)

  abbrev pub whole : LinearSystem
  whole = system_there P c place task line

  abbrev pub scale : ℕ
  scale = scale_for c task.kind

  abbrev pub positions : ℕ
  positions = count P c.degree (before c place) task scale line

  -- the numbers of the task's own rows are of 128 bits
  abbrev pub RowsFit : Type 0
  RowsFit = (place : ℕ) (row : SparseRow) → slice_get own.rows place ≡ Some row → RowFits row

  abbrev pub IsFew : Type 0
  IsFew = length whole.rows ≤ most_allowed

  -- and there are few, with the line's, whose right sides are of 128 bits too
  pub record AreFine : Type 0 where
    pub fit : RowsFit
    pub few : IsFew
    pub right : (k : ℕ) → k < positions → numerator_at line.bound k * scale < most

  -- nothing that is raised leaves
  abbrev pub Rises : ℕ → Type 0
  Rises t = (block : ℕ) → RescaleLeaves P c place task line pick t block → ⊥

  abbrev pub Finds : ℕ → List ℕ → Option f.Fault → Type 0
  Finds t x found = OtherFinds P c t (told P c.degree (before c place) task x) found

  abbrev pub First : p.Place → Type 0
  First q = IsFirst P c place task line pick q

  -- Where a place is seen, and all that is tried before it was fine, it comes first.
  pub record PlacesAreFirst : Type 0 where
    pub row : (row : ℕ) → RowLeaves own.rows row → First (p.Row row)
    pub too_large : RowsFit → most_allowed < length whole.rows → First p.TooLarge
    pub right : RowsFit → IsFew → (position : ℕ) → RightLeaves line.bound positions scale position → First (p.Right position)
    pub solve : AreFine → (pivots : List (ℕ × ℕ)) (row column : ℕ) →
        Refuses (rule_by pick) whole pivots row column → First (p.Solve pivots row column)
    pub scaled : AreFine → (d : ℤ) (ns : List ℤ) → ReadAlone (rule_by pick) whole d ns →
        (entry : ℕ) → ScaleLeaves d ns entry → First (p.Scale entry)
    pub refute : AreFine → (y : List ℕ) → VectorIsFine (rule_by pick) whole y → (column : ℕ) →
        IsVerdict (refuting whole (map pos y)) (Leaves column) →
        First (p.Refute column)
    pub rescale : AreFine → (t : ℕ) (x : List ℕ) → SolutionFits (rule_by pick) whole t x → (block : ℕ) →
        RescaleLeaves P c place task line pick t block → First (p.Rescale block)
    pub check : AreFine → (t : ℕ) (x : List ℕ) → SolutionFits (rule_by pick) whole t x → Rises t →
        (path : List ℕ) (index : ℕ) → Finds t x (Some (f.Leaves place path index)) →
        First (p.Check path index)

  -- Where all is fine, no place comes.
  pub record FineIsClear : Type 0 where
    pub kept : AreFine → (t : ℕ) (x : List ℕ) → SolutionFits (rule_by pick) whole t x → Rises t →
        Finds t x None → IsClear P c place task line pick
    pub not_kept : AreFine → (y : List ℕ) → VectorIsFine (rule_by pick) whole y → IsPassed whole y → IsClear P c place task line pick

abbrev pub SeenIsFirst : Type 0
SeenIsFirst = (P : Program) (c : Certificate) (place : ℕ) (task : Task) (line : Line) (pick : List ℤ → ℤ → Option ℕ) →
    IsSystem (system_there P c place task line) → PlacesAreFirst P c place task line pick

abbrev pub AllFineIsClear : Type 0
AllFineIsClear = (P : Program) (c : Certificate) (place : ℕ) (task : Task) (line : Line) (pick : List ℤ → ℤ → Option ℕ) →
    IsSystem (system_there P c place task line) → FineIsClear P c place task line pick
