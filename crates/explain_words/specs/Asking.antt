-- What words ask for, by what `clap` promises of the commands.
use Rattle.std.specs.Prelude.{◌≡◌, ◌⊎◌, cond, List, [], Option, Some, None, codes}
use Rattle.std.specs.Str.{bytes_eq}
use Rattle.clap.specs.Kinds.{IsAmong}
use Rattle.clap.specs.Walk.{Row, Text}
use Rattle.clap.specs.Simple.{subcommand_of}
use Rattle.clap.specs.Faults.{fault_of}
use Rattle.clap.specs.declared.error.kind.ErrorKind.{ErrorKind}
use Rattle.clap.specs.declared.error.kind.ErrorKind.TheVariants as kind
use Rattle.explain_commands.specs.Apps.{app}
use Rattle.explain_words.specs.Commands.{values, MeansCheck, MeansBounds, MeansBudget, MeansVerify, MeansWhy, MeansPlot, MeansProfile, MeansLsp}
use Rattle.explain_words.specs.declared.request.Request.{Request}
use Rattle.explain_words.specs.declared.request.WordsFault.{WordsFault}
use Rattle.explain_words.specs.declared.request.WordsFault.TheVariants.{Shown, Refused, NoMemory}

pub data Command : Type 0 where
  OfCheck : Command
  OfBounds : Command
  OfBudget : Command
  OfVerify : Command
  OfWhy : Command
  OfPlot : Command
  OfProfile : Command
  OfLsp : Command

abbrev pub command_named : Text → Option Command
command_named name =
    cond (bytes_eq name (codes "check")) (Some OfCheck)
    (cond (bytes_eq name (codes "bounds")) (Some OfBounds)
    (cond (bytes_eq name (codes "budget")) (Some OfBudget)
    (cond (bytes_eq name (codes "verify")) (Some OfVerify)
    (cond (bytes_eq name (codes "why")) (Some OfWhy)
    (cond (bytes_eq name (codes "plot")) (Some OfPlot)
    (cond (bytes_eq name (codes "profile")) (Some OfProfile) (cond (bytes_eq name (codes "lsp")) (Some OfLsp) None)))))))

-- what a command asks for with what is found for its arguments
abbrev pub MeansBy : Option Command → List Row → Request → Type 0
MeansBy (Some OfCheck) rows request = MeansCheck (values (codes "file") rows) (values (codes "data") rows) request
MeansBy (Some OfBounds) rows request = MeansBounds rows request
MeansBy (Some OfBudget) rows request = MeansBudget rows request
MeansBy (Some OfVerify) rows request = MeansVerify rows request
MeansBy (Some OfWhy) rows request = MeansWhy rows request
MeansBy (Some OfPlot) rows request = MeansPlot rows (values (codes "data") rows) request
MeansBy (Some OfProfile) rows request = MeansProfile rows request
MeansBy (Some OfLsp) rows request = MeansLsp rows request
MeansBy None rows request = ⊥

-- the same of a command by its name
abbrev pub Means : Option (Text × List Row) → Request → Type 0
Means (Some command) request = MeansBy (command_named command.0) command.1 request
Means None request = ⊥

-- a mistake, and no wish to see help or the version
abbrev pub IsMistake : ErrorKind → Type 0
IsMistake kind.DisplayHelp = ⊥
IsMistake kind.DisplayVersion = ⊥
IsMistake kind.OutOfMemory = ⊥
IsMistake mistake = Unit {0}

-- the words fit a command, which asks for this
abbrev pub Asks : List Text → Request → Type 0
Asks words request = (fault_of app words ≡ []) × Means (subcommand_of app words) request

-- the words ask for help, or for the version
abbrev pub AsksToShow : List Text → Type 0
AsksToShow words = IsAmong kind.DisplayHelp (fault_of app words) ⊎ IsAmong kind.DisplayVersion (fault_of app words)

-- the words fit no command, or a command that asks for nothing
abbrev pub AsksNothing : List Text → Type 0
AsksNothing words =
    ((mistake : ErrorKind) × IsMistake mistake × IsAmong mistake (fault_of app words))
    ⊎ ((fault_of app words ≡ []) × ((request : Request) → Means (subcommand_of app words) request → ⊥))

-- why words give no request
abbrev pub GivesNone : List Text → WordsFault → Type 0
GivesNone words (Shown text) = AsksToShow words
GivesNone words (Refused text) = AsksNothing words
GivesNone words NoMemory = Unit {0}

-- what is told of a kind of error
abbrev pub IsTold : ErrorKind → WordsFault → Type 0
IsTold k (Shown text) = (k ≡ kind.DisplayHelp) ⊎ (k ≡ kind.DisplayVersion)
IsTold k (Refused text) = IsMistake k
IsTold k NoMemory = Unit {0}

-- what means nothing is refused
abbrev pub RefusesAll : (Request → Type 0) → WordsFault → Type 0
RefusesAll Means (Refused text) = (request : Request) → Means request → ⊥
RefusesAll Means (Shown text) = ⊥
RefusesAll Means NoMemory = Unit {0}

-- a mistake is told, or memory ran out
abbrev pub IsRefusal : WordsFault → Type 0
IsRefusal (Refused text) = Unit {0}
IsRefusal (Shown text) = ⊥
IsRefusal NoMemory = Unit {0}
