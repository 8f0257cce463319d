-- What is answered of a declared bound, over a certificate that was checked.
use Rattle.std.specs.Prelude.{◌≡◌, ◌<◌, ℕ, ℤ, List, length, slice_get, Option, Some, None}
use Rattle.raml_syntax.specs.Tree.{Function}
use Rattle.raml_syntax.specs.Types.{types_of}
use Rattle.share_normal.specs.Program.{source_in}
use Rattle.annot_types.specs.Program.{Program, blocker_of}
use Rattle.annot_types.specs.Certificate.{Block, Certificate}
use Rattle.annot_types.specs.Rows.{size}
use Rattle.annot_types.specs.Held.{before, done_before, scale_for}
use Rattle.annot_types.specs.System.{system}
use Rattle.rules_soundness_laws.specs.Bounds.{Bounds}
use Rattle.rules_plan.specs.Read.{program_in}
use Rattle.infer_spec.specs.Generator.{limit_of}
use Rattle.infer_systems_laws.specs.Analysed.{generator_of}
use Rattle.cert_check.specs.Checked.{Checking}
use Rattle.other_blocks.specs.Other.{IsTried}
use Rattle.bound_file.specs.Lines.{Line, Declaration}
use Rattle.bound_contract.specs.Under.{AreDeclared, terms_at}
use Rattle.bound_contract.specs.Decided.{Decided, Kept, NotKept, Calls, IsOwn, IsDecided}
use Rattle.bound_contract.specs.Places.{Place, IsFirst, IsClear}

-- this is claimed of the line of this number
abbrev pub OfLine : Declaration → ℕ → (Line → Type 0) → Type 0
OfLine d number claim = (line : Line) → slice_get d.lines number ≡ Some line → claim line

module _ (checking : Checking) (line : Line) where
  abbrev program : Program
  program = program_in checking.program

  abbrev certificate : Certificate
  certificate = checking.certificate

  -- It is of a function of the program, whose task waits or has a system that exceeds no limit.
  pub record MayBeAsked : Type 0 where
    pub fun : line.fun < length (source_in checking.program)
    pub within : (place : ℕ) (own : Block) → IsOwn program certificate line place own →
        blocker_of program own.task (done_before certificate place) ≡ None →
        limit_of (generator_of program certificate.degree) own.task
        (system program certificate.degree (before certificate place) own.task (scale_for certificate own.task.kind)) ≡ None

  -- over the certificate's block for its meter and the group of its function
  abbrev pub Decides : Decided → Type 0
  Decides decided =
      (place : ℕ) (own : Block) → IsOwn program certificate line place own → IsDecided checking.program certificate line place own decided

  -- What is declared bounds what the function costs, in the source and on the machine. It is told by the numbers over
  -- any one denominator that are those of the line, at the tuples of this degree.
  abbrev pub IsBound : ℕ → Type 0
  IsBound degree =
      (fun : Function) → slice_get (source_in checking.program) line.fun ≡ Some fun →
      (den : ℕ) → 0 < den → (q : ℕ → ℕ) → AreDeclared line.bound (size (types_of fun) degree) den q →
      Bounds (source_in checking.program) line.fun fun line.meter den (terms_at (types_of fun) degree q)

  -- so where the line is kept
  abbrev pub BoundsWhereKept : ℕ → Decided → Type 0
  BoundsWhereKept degree (Kept o) = IsBound degree
  BoundsWhereKept degree (NotKept y) = Unit {0}
  BoundsWhereKept degree (Calls f) = Unit {0}

  module _ (pick : List ℤ → ℤ → Option ℕ) where
    -- Its task waits, or no number leaves 128 bits and there are few enough rows.
    abbrev pub NoneComes : Type 0
    NoneComes =
        (place : ℕ) (own : Block) → IsOwn program certificate line place own → IsTried own.body →
        IsClear program certificate place own.task line pick

    -- Its task was tried, and this place comes first.
    abbrev pub ComesFirst : Place → Type 0
    ComesFirst p =
        (place : ℕ) (own : Block) → IsOwn program certificate line place own → IsTried own.body
        × IsFirst program certificate place own.task line pick p
