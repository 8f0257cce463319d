-- What `clap` finds in ordered words.
use Rattle.std.specs.Prelude.{◌≡◌, Bool, true, false, cond, List, [], ◌∷◌, Option, Some, None, Result, Ok, Err, codes}
use Rattle.std.specs.Borrow.{Bor}
use Rattle.clap.specs.Kinds.{Kinds}
use Rattle.clap.specs.Walk.{first_of}
use Rattle.clap.specs.Simple.{App, matches_of}
use Rattle.clap.specs.Faults.{fault_of}
use Rattle.clap.specs.Matches.{found_of, first_value}
use Rattle.clap.specs.declared.error.kind.ErrorKind.{ErrorKind}
use Rattle.clap.specs.declared.error.kind.ErrorKind.TheVariants as kind
use Rattle.clap.specs.declared.parser.matches.ArgMatches.{ArgMatches}
use Rattle.clap.specs.declared.parser.matches.Found.{Found}
use Rattle.raml_words.specs.Words.{Text}
use Rattle.raml_words.specs.Sorting.{lent, both}
use Rattle.raml_words.specs.declared.request.WordsFault.{WordsFault}
use Rattle.raml_words.specs.declared.request.WordsFault.TheVariants.{Usage, NoMemory}
use Rattle.raml_words.specs.declared.clapped.BoundsTexts.{BoundsTexts as BoundsTexts'}
use Rattle.raml_words.specs.declared.clapped.RunTexts.{RunTexts as RunTexts'}
use Rattle.raml_words.specs.declared.clapped.FilesTexts.{FilesTexts}
use Rattle.raml_words.specs.declared.clapped.SpendTexts.{SpendTexts as SpendTexts'}

-- no kind
abbrev pub none : Kinds → Bool
none [] = true
none (k ∷ ks) = false

-- the command takes the words
abbrev pub is_taken : App → List Text → Bool
is_taken app words = none (fault_of app words)

abbrev pub found : App → List Text → Text → Option Text
found app words id = first_of id (matches_of app words)

abbrev pub Refuses : ErrorKind → WordsFault → Type 0
Refuses k NoMemory = Unit {0}
Refuses k Usage = k ≡ kind.OutOfMemory → ⊥

-- what is found where the command takes the words, or that it does not take them, unless memory was missing
abbrev pub Finds : App → List Text → Result ArgMatches WordsFault → Type 0
Finds app words (Ok m) = (is_taken app words ≡ true) × (found app words ≡ first_value (found_of m))
Finds app words (Err Usage) = is_taken app words ≡ false
Finds app words (Err NoMemory) = Unit {0}

-- what a command makes of the values that are found, by their names, where the words are taken
abbrev pub taken_as : {A : Type 0} → App → ((Text → Option Text) → Option A) → List Text → Option A
taken_as app of_values words = cond (is_taken app words) (of_values (found app words)) None

abbrev pub one_text : (Text → Option Text) → Option Text
one_text value = value (codes "file")

abbrev pub two_texts : (Text → Option Text) → Option (Text × Text)
two_texts value = both (value (codes "file")) (value (codes "other"))

abbrev pub count_text : (Text → Option Text) → Option Text
count_text value = value (codes "count")

pub record BoundsTexts : Type 0 where
  pub file : Text
  pub degree : Text
  pub pivot : Option Text

abbrev pub bounds_texts_with : Option Text → Option Text → Option Text → Option BoundsTexts
bounds_texts_with (Some file) (Some degree) pivot = Some (record { file = file; degree = degree; pivot = pivot })
bounds_texts_with file degree pivot = None

abbrev pub bounds_texts : (Text → Option Text) → Option BoundsTexts
bounds_texts value = bounds_texts_with (value (codes "file")) (value (codes "degree")) (value (codes "pivot"))

pub record RunTexts : Type 0 where
  pub file : Text
  pub name : Text
  pub input : Text
  pub steps : Option Text
  pub cells : Option Text
  pub degree : Option Text

abbrev pub run_texts_with : Option Text → Option Text → Option Text → Option Text → Option Text → Option Text → Option RunTexts
run_texts_with (Some file) (Some name) (Some input) steps cells degree =
    Some (record { file = file; name = name; input = input; steps = steps; cells = cells; degree = degree })
run_texts_with file name input steps cells degree = None

abbrev pub run_texts : (Text → Option Text) → Option RunTexts
run_texts value =
    run_texts_with (value (codes "file")) (value (codes "name")) (value (codes "input"))
    (value (codes "steps")) (value (codes "cells")) (value (codes "degree"))

-- what the operands are, and the degree
abbrev pub degree_texts : {A : Type 0} → ((Text → Option Text) → Option A) → (Text → Option Text) → Option (A × Text)
degree_texts of_values value = both (of_values value) (value (codes "degree"))

pub record SpendTexts : Type 0 where
  pub file : Text
  pub prices : Text
  pub name : Text
  pub input : Text
  pub steps : Option Text
  pub cells : Option Text

abbrev pub spend_texts_with : Option Text → Option Text → Option Text → Option Text → Option Text → Option Text → Option SpendTexts
spend_texts_with (Some file) (Some prices) (Some name) (Some input) steps cells =
    Some (record { file = file; prices = prices; name = name; input = input; steps = steps; cells = cells })
spend_texts_with file prices name input steps cells = None

abbrev pub spend_texts : (Text → Option Text) → Option SpendTexts
spend_texts value =
    spend_texts_with (value (codes "file")) (value (codes "prices")) (value (codes "name")) (value (codes "input"))
    (value (codes "steps")) (value (codes "cells"))

-- ---- the code's texts as plain data

abbrev pub values_in : Found → Text → Option Text
values_in f id = first_value f id

abbrev pub now_of : Bor Text → Text
now_of word = word.now

abbrev pub pair_of : Bor Text × Bor Text → Text × Text
pair_of p = (p.0.now, p.1.now)

abbrev pub bounds_texts_of : BoundsTexts' → BoundsTexts
bounds_texts_of t = record { file = t.file.now; degree = t.degree.now; pivot = lent t.pivot }

abbrev pub run_texts_of : RunTexts' → RunTexts
run_texts_of t =
    record { file = t.file.now; name = t.name.now; input = t.input.now; steps = lent t.steps; cells = lent t.cells; degree = lent t.degree }

abbrev pub files_texts_of : FilesTexts → (Text × Text) × Text
files_texts_of t = ((t.file.now, t.other.now), t.degree.now)

abbrev pub spend_texts_of : SpendTexts' → SpendTexts
spend_texts_of t =
    record { file = t.file.now; prices = t.prices.now; name = t.name.now; input = t.input.now; steps = lent t.steps; cells = lent t.cells }
