-- What the code tells of the bounds that are not decided.
use Rattle.std.specs.Prelude.{ℕ, ℤ, List, Option}
use Rattle.annot_types.specs.Program.{Program}
use Rattle.annot_types.specs.Certificate.{Certificate}
use Rattle.bound_file.specs.Lines.{Line}
use Rattle.contract_report.specs.Refused.{Rows, Number, FirstExceeds}
use Rattle.contract_report.specs.declared.fault.VerdictsFault.{VerdictsFault}
use Rattle.contract_report.specs.declared.fault.VerdictsFault.TheVariants.{TooLarge, Leaves, NoMemory}

abbrev pub VerdictsRefused : Program → Certificate → (List ℤ → ℤ → Option ℕ) → List Line → VerdictsFault → Type 0
VerdictsRefused N c pick lines (TooLarge number) = FirstExceeds N c pick lines number Rows
VerdictsRefused N c pick lines (Leaves number) = FirstExceeds N c pick lines number Number
VerdictsRefused N c pick lines NoMemory = Unit {0}
