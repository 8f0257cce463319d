-- What each command asks for, with what `clap` finds for its arguments.
use Rattle.std.specs.Prelude.{◌≡◌, ℕ, Bool, true, false, List, [], ◌∷◌, map, Option, Some, None, option_map, unwrap_or, Result, Ok, Err}
use Rattle.std.specs.Prelude.{codes}
use Rattle.std.specs.Option.{option_map_or}
use Rattle.std.specs.Str.{bytes_eq}
use Rattle.std.specs.Borrow.{Bor}
use Rattle.clap.specs.Walk.{Row, Text, all_of, first_of}
use Rattle.explain_words.specs.Spelled.{lent, degree_in, seed_in, pivots_in, width_in, meter_named, within_in}
use Rattle.explain_words.specs.declared.within.Meter.{Meter}
use Rattle.explain_words.specs.declared.within.Meter.TheVariants.{Work}
use Rattle.explain_words.specs.declared.request.Request.{Request}
use Rattle.explain_words.specs.declared.request.Request.TheVariants.{Check, CheckData, Bounds, Budget, WriteBudget, Verify, Why, Plot, Profile, Lsp}
use Rattle.explain_words.specs.declared.request.bounds.BoundsWords.{BoundsWords}
use Rattle.explain_words.specs.declared.request.budget.Aim.{Aim as Aim'}
use Rattle.explain_words.specs.declared.request.budget.Aim.TheVariants as aim
use Rattle.explain_words.specs.declared.request.plot.Arguments.{Arguments as Arguments'}
use Rattle.explain_words.specs.declared.request.plot.Arguments.TheVariants as arguments
use Rattle.explain_words.specs.declared.request.plot.PlotWords.{PlotWords}
use Rattle.explain_words.specs.declared.request.lsp.LspWords.{LspWords}
use Rattle.explain_words.specs.declared.request.profile.ProfileWords.{ProfileWords}
use Rattle.explain_words.specs.declared.request.why.WhyWords.{WhyWords}
use Rattle.explain_words.specs.declared.request.why.Written.{Written}

-- the texts that are lent
abbrev pub texts : List (Bor Text) → List Text
texts = map (λ (text : Bor Text). text.now)

-- the values of an argument
abbrev pub values : Text → List Row → List Text
values id rows = unwrap_or (all_of id rows) []

-- a flag stands among the words
abbrev pub is_set : Text → List Row → Bool
is_set id rows = option_map_or (λ text. bytes_eq text (codes "true")) (first_of id rows) false

-- what a word gives, where there is one
abbrev pub optional : {A : Type 0} → (Text → Option A) → Option Text → Option (Option A)
optional read None = Some None
optional read (Some word) = option_map Some (read word)

-- the degree that is given, or 4
abbrev pub degree_or_4 : Option Text → Option ℕ
degree_or_4 None = Some 4
degree_or_4 (Some word) = degree_in word

-- what is read, where nothing is wrong
abbrev pub right : {A E : Type 0} → Result A E → Option A
right (Ok value) = Some value
right (Err mistake) = None

-- it is what is meant, or nothing is meant
abbrev pub Tells : {A E : Type 0} → (A → Type 0) → Result A E → Type 0
Tells Means (Ok value) = Means value
Tells {A} Means (Err mistake) = (value : A) → Means value → ⊥

-- what `check` asks for with these files, and with these words behind `--data`
abbrev pub MeansCheck : List Text → List Text → Request → Type 0
MeansCheck files behind (Check names) = (files ≡ texts names.items) × (behind ≡ [])
MeansCheck files behind (CheckData file name input) = (files ≡ file.now ∷ []) × (behind ≡ name.now ∷ input.now ∷ [])
MeansCheck files behind other = ⊥

-- what `bounds` asks for
pub record AreBounds (rows : List Row) (asked : BoundsWords) : Type 0 where
  pub file : first_of (codes "file") rows ≡ Some asked.file.now
  pub degree : degree_or_4 (first_of (codes "degree") rows) ≡ Some asked.degree
  pub function : first_of (codes "function") rows ≡ lent asked.function
  pub at : first_of (codes "at") rows ≡ lent asked.at
  pub within : optional within_in (first_of (codes "within") rows) ≡ Some asked.within
  pub width : optional width_in (first_of (codes "width") rows) ≡ Some asked.width
  pub json : is_set (codes "json") rows ≡ asked.json

abbrev pub MeansBounds : List Row → Request → Type 0
MeansBounds rows (Bounds asked) = AreBounds rows asked
MeansBounds rows other = ⊥

-- it is said which bounds of a file are kept, or they are written to it
pub data Aim : Type 0 where
  Keep : Text → Bool → Aim
  Write : Text → Bool → Aim

abbrev pub plain_aim : Aim' → Aim
plain_aim (aim.Keep bounds json) = Keep bounds.now json
plain_aim (aim.Write bounds force) = Write bounds.now force

-- by an operand, the value of `--write`, `--json` and `--force`
abbrev pub aim_of : Option Text → Option Text → Bool → Bool → Option Aim
aim_of (Some bounds) None json false = Some (Keep bounds json)
aim_of None (Some bounds) false force = Some (Write bounds force)
aim_of operand written json force = None

abbrev pub aim_in : List Row → Option Aim
aim_in rows =
    aim_of (first_of (codes "bounds") rows) (first_of (codes "write") rows) (is_set (codes "json") rows) (is_set (codes "force") rows)

-- what is asked for by the file, the degree if one is given, and the aim
pub record AreBudget (rows : List Row) (source : Text) (most : Option ℕ) (kept : Aim) : Type 0 where
  pub file : first_of (codes "file") rows ≡ Some source
  pub degree : optional degree_in (first_of (codes "degree") rows) ≡ Some most
  pub aimed : aim_in rows ≡ Some kept

-- what `budget` asks for
abbrev pub MeansBudget : List Row → Request → Type 0
MeansBudget rows (Budget file bounds degree json) = AreBudget rows file.now degree (Keep bounds.now json)
MeansBudget rows (WriteBudget file bounds degree force) = AreBudget rows file.now degree (Write bounds.now force)
MeansBudget rows other = ⊥

-- what `verify` asks for
abbrev pub MeansVerify : List Row → Request → Type 0
MeansVerify rows (Verify file certificate) =
    (first_of (codes "file") rows ≡ Some file.now) × (first_of (codes "certificate") rows ≡ Some certificate.now)
MeansVerify rows other = ⊥

-- the file that is to be written, by the value of `--write` and `--force`
abbrev pub written_of : Option Text → Bool → Option (Option (Text × Bool))
written_of (Some name) force = Some (Some (name, force))
written_of None true = None
written_of None false = Some None

abbrev pub plain_written : Written → Text × Bool
plain_written written = (written.name.now, written.force)

-- what `why` asks for
pub record AreWhy (rows : List Row) (asked : WhyWords) : Type 0 where
  pub file : first_of (codes "file") rows ≡ Some asked.file.now
  pub degree : degree_or_4 (first_of (codes "degree") rows) ≡ Some asked.degree
  pub function : first_of (codes "function") rows ≡ lent asked.function
  pub meter : optional meter_named (first_of (codes "meter") rows) ≡ Some asked.meter
  pub written : written_of (first_of (codes "write") rows) (is_set (codes "force") rows) ≡ Some (option_map plain_written asked.written)

abbrev pub MeansWhy : List Row → Request → Type 0
MeansWhy rows (Why asked) = AreWhy rows asked
MeansWhy rows other = ⊥

-- the seed that is given, or 1
abbrev pub seed_or_1 : Option Text → Option ℕ
seed_or_1 None = Some 1
seed_or_1 (Some word) = seed_in word

-- the meter that is given, or work
abbrev pub meter_or_work : Option Text → Option Meter
meter_or_work None = Some Work
meter_or_work (Some word) = meter_named word

-- a function is run on arguments that are made of these sizes, by a seed, or on those of files
pub data Arguments : Type 0 where
  Made : Text → ℕ → Arguments
  Given : List Text → Arguments

abbrev pub plain_arguments : Arguments' → Arguments
plain_arguments (arguments.Made sizes seed) = Made sizes.now seed
plain_arguments (arguments.Given files) = Given (texts files.items)

-- by the sizes and the seed, where they are given, and the files
abbrev pub arguments_of : Option Text → Option Text → List Text → Option Arguments
arguments_of (Some sizes) seed [] = option_map (Made sizes) (seed_or_1 seed)
arguments_of None None (file ∷ files) = Some (Given (file ∷ files))
arguments_of sizes seed files = None

-- what `plot` asks for with these files behind `--data`
pub record ArePlot (rows : List Row) (behind : List Text) (asked : PlotWords) : Type 0 where
  pub file : first_of (codes "file") rows ≡ Some asked.file.now
  pub name : first_of (codes "name") rows ≡ Some asked.name.now
  pub run_on : arguments_of (first_of (codes "sizes") rows) (first_of (codes "seed") rows) behind ≡ Some (plain_arguments asked.arguments)
  pub parameter : first_of (codes "of") rows ≡ lent asked.parameter
  pub degree : degree_or_4 (first_of (codes "degree") rows) ≡ Some asked.degree
  pub meter : meter_or_work (first_of (codes "meter") rows) ≡ Some asked.meter
  pub output : first_of (codes "output") rows ≡ Some asked.output.now
  pub force : is_set (codes "force") rows ≡ asked.force

abbrev pub MeansPlot : List Row → List Text → Request → Type 0
MeansPlot rows behind (Plot asked) = ArePlot rows behind asked
MeansPlot rows behind other = ⊥

-- what `profile` asks for
pub record AreProfile (rows : List Row) (asked : ProfileWords) : Type 0 where
  pub file : first_of (codes "file") rows ≡ Some asked.file.now
  pub function : first_of (codes "function") rows ≡ Some asked.function.now
  pub degree : degree_or_4 (first_of (codes "degree") rows) ≡ Some asked.degree
  pub at : first_of (codes "at") rows ≡ lent asked.at

abbrev pub MeansProfile : List Row → Request → Type 0
MeansProfile rows (Profile asked) = AreProfile rows asked
MeansProfile rows other = ⊥

-- the pivots that are given, or many
abbrev pub pivots_or_many : Option Text → Option ℕ
pivots_or_many None = Some 20000
pivots_or_many (Some word) = pivots_in word

-- what `lsp` asks for
pub record AreLsp (rows : List Row) (asked : LspWords) : Type 0 where
  pub degree : degree_or_4 (first_of (codes "degree") rows) ≡ Some asked.degree
  pub pivots : pivots_or_many (first_of (codes "budget") rows) ≡ Some asked.pivots
  pub log : first_of (codes "log") rows ≡ lent asked.log

abbrev pub MeansLsp : List Row → Request → Type 0
MeansLsp rows (Lsp asked) = AreLsp rows asked
MeansLsp rows other = ⊥
