-- What is told of the end of a machine.
use Rattle.std.specs.Prelude.{◌≡◌, ◌<◌, ℕ, List, length, Option, Some, None, string_bytes}
use Rattle.raml_syntax.specs.Tree.{Type', Function, Prog}
use Rattle.raml_syntax.specs.Value.{Value}
use Rattle.value_text.specs.Stands.{StandsFor}
use Rattle.value_text.specs.Printing.{StandsForSome, printed, most_text}
use Rattle.value_text.specs.declared.word.Word.{Word}
use Rattle.value_text.specs.declared.word.Cell.{Cell}
use Rattle.value_text.specs.declared.fault.DataFault.{DataFault}
use Rattle.value_text.specs.declared.fault.DataFault.TheVariants.{NoMemory}
use Rattle.metered_vm.specs.declared.end.End.{End}
use Rattle.metered_vm.specs.declared.end.End.TheVariants as e
use Rattle.explain_runs.specs.declared.outcome.Limits.{Limits}
use Rattle.explain_runs.specs.declared.outcome.Measured.{Measured}
use Rattle.explain_runs.specs.Measure.{HasArguments, IsMeasured}
use Rattle.explain_runs.specs.declared.outcome.Outcome.{Outcome}
use Rattle.explain_runs.specs.declared.outcome.Outcome.TheVariants as o

-- memory did not run out
abbrev pub IsRefusal : DataFault → Type 0
IsRefusal NoMemory = ⊥
IsRefusal fault = Unit {0}

-- of the value of the type for which the word stands: its text, or that this is too long
abbrev pub TellsValue : List Cell → Type' → Word → Outcome → Type 0
TellsValue cells A word (o.Halted value) = (v : Value) → StandsFor cells word v → string_bytes value ≡ printed v A
TellsValue cells A word o.TooLong = (v : Value) → StandsFor cells word v → most_text < length (printed v A)
TellsValue cells A word outcome = ⊥

abbrev pub Tells : List Cell → Type' → End → Outcome → Type 0
Tells cells A (e.Halted word) outcome = TellsValue cells A word outcome
Tells cells A e.Stopped outcome = outcome ≡ o.Stopped
Tells cells A e.HeapFull outcome = outcome ≡ o.HeapFull

-- the word with which a machine has halted stands for a value of the type
abbrev pub HasWord : List Cell → Type' → End → Type 0
HasWord cells A (e.Halted word) = StandsForSome cells word A
HasWord cells A end = Unit {0}

-- nothing is measured, as the data was refused
abbrev pub IsNone : DataFault → Option Measured → Type 0
IsNone fault None = IsRefusal fault
IsNone fault (Some m) = ⊥

-- it is measured on the arguments for which the words stand
abbrev pub IsRunOn : Prog → ℕ → List Cell → List Word → Limits → Option Measured → Type 0
IsRunOn P f cells words limits None = ⊥
IsRunOn P f cells words limits (Some m) =
    (g : Function) (args : List Value) → HasArguments P f cells words g args → IsMeasured P f g args limits m
