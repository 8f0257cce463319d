-- Calls with declared bounds.
use Rattle.std.specs.Prelude.{ℕ, List}
use Rattle.raml_syntax.specs.Tree.{Text, Prog}
use Rattle.annot_types.specs.Program.{Program}
use Rattle.annot_types.specs.Certificate.{Certificate}
use Rattle.simplex_checked.specs.Rules.{least_pick}
use Rattle.bound_file.specs.Lines.{Line, Declaration}
use Rattle.bound_file.specs.Answers.{Spells, FirstFault}
use Rattle.contract_report.specs.Verdicts.{AreVerdictLines}
use Rattle.contract_report.specs.Refused.{Rows, Number, FirstExceeds, AllLinesClear}
use Rattle.refusals.specs.Ending.{Ending, BadBounds, LineTooLarge, Overflows, OnLine}
use Rattle.refusals.specs.Line.{no_names}
use Rattle.raml_promise.specs.Outside.{Side, Store}
use Rattle.raml_promise.specs.Steps.{Answer, Step, Test, Prints, OfFile, names_of}
use Rattle.refusal_text.specs.declared.plain.Which.TheVariants as w

-- Why bytes are no file of bounds for a program at a degree: their first fault.
abbrev pub BoundsRefuse : Prog → ℕ → List ℕ → Ending → Type 0
BoundsRefuse P degree bytes (BadBounds fault) = FirstFault P degree bytes fault
BoundsRefuse P degree bytes _ = ⊥

-- A file declares bounds, a line each.
abbrev pub OfBounds : Side → Store → Text → Prog → ℕ → (Declaration → Answer → Type 0) → Answer → Type 0
OfBounds side store file P degree Rest =
    OfFile side store w.Bounds file (λ bytes. Step no_names (BoundsRefuse P degree bytes) (Spells P degree bytes) Rest)

-- Why declared bounds are not decided: the first line with which a system has too many rows, or where a number leaves 128 bits.
abbrev pub LinesRefuse : Program → Certificate → List Line → Ending → Type 0
LinesRefuse N c lines (LineTooLarge number) = FirstExceeds N c least_pick lines number Rows
LinesRefuse N c lines (Overflows (OnLine number)) = FirstExceeds N c least_pick lines number Number
LinesRefuse N c lines _ = ⊥

-- The verdict of each line.
abbrev pub PrintsVerdicts : Side → Prog → Program → List Line → Certificate → Answer → Type 0
PrintsVerdicts side P N lines c =
    Test (names_of P N) (LinesRefuse N c lines) (AllLinesClear N c least_pick lines) (Prints side (AreVerdictLines P N c lines))
