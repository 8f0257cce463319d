-- What is decided of declared bounds, line by line.
use Rattle.std.specs.Prelude.{◌≡◌, ◌<◌, ℕ, ℤ, List, [], ◌∷◌, ◌++◌, codes, slice_get, Some}
use Rattle.raml_syntax.specs.Tree.{Text, Function, Prog}
use Rattle.raml_syntax.specs.Types.{types_of}
use Rattle.linear_rows.specs.Systems.{Refutes}
use Rattle.farkas_check.specs.Checks.{EachPasses, refuting}
use Rattle.annot_types.specs.Program.{Program}
use Rattle.annot_types.specs.Certificate as a
use Rattle.annot_types.specs.Certificate.{Block, Certificate}
use Rattle.annot_types.specs.Rows.{size}
use Rattle.rules_soundness_laws.specs.Bounds.{Bounds}
use Rattle.other_blocks.specs.Other.{IsTried}
use Rattle.bound_file.specs.Lines.{Line}
use Rattle.bound_contract.specs.Under.{AreDeclared, terms_at}
use Rattle.bound_contract.specs.Kept.{system_there, KeepsThere, NoneKeepsThere}
use Rattle.bound_contract.specs.Decided.{IsOwn}
use Rattle.report_text.specs.Names.{name_at, meter_text}
use Rattle.report_text.specs.Claims.{calls_line}

-- A declared bound is kept, or it is not, or the function waits for one that it calls and that has no bound.
pub data Verdict : Type 0 where
  Kept : Verdict
  NotKept : Verdict
  Waits : ℕ → Verdict

-- By the certificate's own block for the line's function and meter, which stands at this place.
module _ (N : Program) (c : Certificate) (line : Line) (place : ℕ) (own : Block) where
  -- It was tried, and some annotation holds in its place and lies under the line.
  pub record KeepsLine : Type 0 where
    pub tried : IsTried own.body
    pub block : Block
    pub task_is : block.task ≡ own.task
    pub t : ℕ
    pub keeps : KeepsThere N c place own.task line block t

  -- It was tried, none does, and a vector passed the check that it refutes the task's system with the line.
  pub record RefutesLine : Type 0 where
    pub tried : IsTried own.body
    pub none : NoneKeepsThere N c place own.task line
    pub vector : List ℤ
    pub refutes : Refutes (system_there N c place own.task line) vector
    pub passes : EachPasses (refuting (system_there N c place own.task line) vector)

  abbrev pub IsVerdict : Verdict → Type 0
  IsVerdict Kept = KeepsLine
  IsVerdict NotKept = RefutesLine
  IsVerdict (Waits f) = own.body ≡ a.Calls f

-- There is such a block, and this is the verdict by it.
pub record Decides (N : Program) (c : Certificate) (line : Line) (verdict : Verdict) : Type 0 where
  pub place : ℕ
  pub own : Block
  pub is : IsOwn N c line place own
  pub decided : IsVerdict N c line place own verdict

-- What is declared bounds the function's cost on the meter, on all arguments, at every limit and after every number of
-- instructions. It is told by the numbers over any one denominator that are those of the line.
abbrev pub IsDeclaredBound : Prog → ℕ → Line → Type 0
IsDeclaredBound P degree line =
    (g : Function) → slice_get P line.fun ≡ Some g → (den : ℕ) → 0 < den → (q : ℕ → ℕ) →
    AreDeclared line.bound (size (types_of g) degree) den q →
    Bounds P line.fun g line.meter den (terms_at (types_of g) degree q)

-- what a verdict is good for
abbrev pub VerdictHolds : Prog → ℕ → Line → Verdict → Type 0
VerdictHolds P degree line Kept = IsDeclaredBound P degree line
VerdictHolds P degree line _ = Unit {0}

-- NAME METER kept, NAME METER not kept, or the line of an analysis that has no bound
abbrev pub verdict_line : Prog → Line → Verdict → Text
verdict_line P line Kept = name_at P line.fun ++ codes " " ++ meter_text line.meter ++ codes " kept\n"
verdict_line P line NotKept = name_at P line.fun ++ codes " " ++ meter_text line.meter ++ codes " not kept\n"
verdict_line P line (Waits f) = calls_line (name_at P line.fun) line.meter (name_at P f)

-- The text is a line for each declared bound, in the order of the file, by its verdict; and what each verdict is good for holds.
abbrev pub AreVerdictLines : Prog → Program → Certificate → List Line → Text → Type 0
AreVerdictLines P N c [] text = text ≡ []
AreVerdictLines P N c (line ∷ lines) text =
    (verdict : Verdict) × (rest : Text) × Decides N c line verdict
    × VerdictHolds P c.degree line verdict × (text ≡ verdict_line P line verdict ++ rest)
    × AreVerdictLines P N c lines rest
