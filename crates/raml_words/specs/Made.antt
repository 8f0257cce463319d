-- What is made of the texts that `clap` finds in the ordered words of a command.
use Rattle.std.specs.Prelude.{ℕ, Bool, true, cond, ◌&&◌, List, [], Option, Some, None, option_map, option_and_then, codes}
use Rattle.std.specs.Option.{is_some}
use Rattle.raml_words.specs.Words.{Text, Request}
use Rattle.raml_words.specs.Sorting.{is_number, number_in, optional, rule_in, Arguments, value_of, once, Bounds, bounds_with, run_with}
use Rattle.raml_words.specs.Sorting.{spend_with}
use Rattle.raml_words.specs.Apps.{one_app, two_app, count_app, bounds_app, run_app, spend_app, ordered, bounds_pairs, run_pairs}
use Rattle.raml_words.specs.Apps.{degree_pairs, spend_pairs}
use Rattle.clap.specs.Simple.{App}
use Rattle.raml_words.specs.Clapped.{taken_as, one_text, two_texts, count_text, BoundsTexts, bounds_texts, RunTexts, run_texts}
use Rattle.raml_words.specs.Clapped.{degree_texts, SpendTexts, spend_texts}

-- a value that is there is a number of few digits
abbrev pub given_number : Option Text → Bool
given_number None = true
given_number (Some word) = is_number word

abbrev pub given_rule : Option Text → Bool
given_rule pivot = is_some (rule_in pivot)

abbrev pub one_clapped : Text → List Text → Option Text
one_clapped command operands = taken_as one_app one_text (ordered command [] operands)

abbrev pub two_clapped : Text → List Text → Option (Text × Text)
two_clapped command operands = taken_as two_app two_texts (ordered command [] operands)

abbrev pub count_clapped : Text → List Text → Option Text
count_clapped command operands = taken_as count_app count_text (ordered command [] operands)

abbrev pub bounds_clapped : Text → Option Text → Option Text → List Text → Option BoundsTexts
bounds_clapped command degree pivot operands = taken_as bounds_app bounds_texts (ordered command (bounds_pairs degree pivot) operands)

abbrev pub bounds_made : BoundsTexts → Option Bounds
bounds_made t = bounds_with t.file (number_in 1 4 t.degree) (rule_in t.pivot)

abbrev pub run_clapped : Option Text → Option Text → Option Text → List Text → Option RunTexts
run_clapped steps cells degree operands = taken_as run_app run_texts (ordered (codes "run") (run_pairs steps cells degree) operands)

abbrev pub run_made : RunTexts → Option Request
run_made t = run_with t.file t.name t.input (optional 1 1000000000 t.steps) (optional 0 16777216 t.cells) (optional 1 4 t.degree)

-- the ordered words of a command with a degree: each option stands once, and its value is a number of few digits
abbrev pub degree_words : Text → Arguments → Option (List Text)
degree_words command given =
    cond (once given.1 && given_number (value_of (codes "degree") given.1))
    (Some (ordered command (degree_pairs (value_of (codes "degree") given.1)) given.0)) None

abbrev pub degree_made : {A : Type 0} → A × Text → Option (A × ℕ)
degree_made t = option_map (λ degree. (t.0, degree)) (number_in 1 4 t.1)

abbrev pub degree_read : {A : Type 0} → App → ((Text → Option Text) → Option A) → List Text → Option (A × ℕ)
degree_read app of_values words = option_and_then degree_made (taken_as app (degree_texts of_values) words)

abbrev pub spend_clapped : Option Text → Option Text → List Text → Option SpendTexts
spend_clapped steps cells operands = taken_as spend_app spend_texts (ordered (codes "spend") (spend_pairs steps cells) operands)

abbrev pub spend_made : SpendTexts → Option Request
spend_made t = spend_with t.file t.prices t.name t.input (optional 1 1000000000 t.steps) (optional 0 16777216 t.cells)
