-- The commands as `clap` has them, and the ordered words that it gets: the command, each option as `--o=V`, `--`, the operands.
use Rattle.std.specs.Prelude.{ℕ, Bool, true, false, List, [], ◌∷◌, ◌++◌, map, Option, Some, None, codes}
use Rattle.clap.specs.ValueTests.{is_unsigned_in}
use Rattle.clap.specs.Walk.{Rule}
use Rattle.clap.specs.Simple.{App, new_app, new_rule, with_rule, on_top}
use Rattle.clap.specs.declared.builder.value_parser.ValueParser.TheVariants as vp
use Rattle.raml_words.specs.Words.{Text}

abbrev pub bare : App
bare = on_top (λ s. record s { disable_help_flag = true }) (new_app (codes "raml"))

-- an operand that must be there
abbrev pub operand_rule : Text → Rule
operand_rule id = record (new_rule id) { required = true }

-- an option whose value is a number of a range
abbrev pub number_rule : Text → Bool → ℕ → ℕ → Rule
number_rule id required least most = record (new_rule id) { long = Some id; required = required; parser = Some (vp.Unsigned least most) }

-- an option with any value
abbrev pub word_rule : Text → Rule
word_rule id = record (new_rule id) { long = Some id }

abbrev pub count_rule : Rule
count_rule = record (new_rule (codes "count")) { required = true; parser = Some (vp.Unsigned 1 100) }

abbrev pub one_app : App
one_app = with_rule bare (operand_rule (codes "file"))

abbrev pub two_app : App
two_app = with_rule one_app (operand_rule (codes "other"))

abbrev pub count_app : App
count_app = with_rule bare count_rule

abbrev pub bounds_options_app : App
bounds_options_app = with_rule (with_rule bare (number_rule (codes "degree") true 1 4)) (word_rule (codes "pivot"))

abbrev pub bounds_app : App
bounds_app = with_rule bounds_options_app (operand_rule (codes "file"))

abbrev pub run_limits_app : App
run_limits_app = with_rule (with_rule bare (number_rule (codes "steps") false 1 1000000000)) (number_rule (codes "cells") false 0 16777216)

abbrev pub run_options_app : App
run_options_app = with_rule run_limits_app (number_rule (codes "degree") false 1 4)

abbrev pub run_app : App
run_app =
    with_rule (with_rule (with_rule run_options_app (operand_rule (codes "file")))
    (operand_rule (codes "name"))) (operand_rule (codes "input"))

abbrev pub file_degree_app : App
file_degree_app = with_rule (with_rule bare (number_rule (codes "degree") true 1 4)) (operand_rule (codes "file"))

abbrev pub files_degree_app : App
files_degree_app = with_rule file_degree_app (operand_rule (codes "other"))

abbrev pub spend_files_app : App
spend_files_app = with_rule (with_rule run_limits_app (operand_rule (codes "file"))) (operand_rule (codes "prices"))

abbrev pub spend_app : App
spend_app = with_rule (with_rule spend_files_app (operand_rule (codes "name"))) (operand_rule (codes "input"))

-- ---- ordered words

abbrev pub option_word : Text → Text → Text
option_word name value = codes "--" ++ (name ++ (codes "=" ++ value))

-- the command and its options
abbrev pub options_words : Text → List (Text × Text) → List Text
options_words command options = command ∷ map (λ (p : Text × Text). option_word p.0 p.1) options

abbrev pub ordered : Text → List (Text × Text) → List Text → List Text
ordered command options operands = command ∷ (map (λ (p : Text × Text). option_word p.0 p.1) options ++ codes "--" ∷ operands)

-- an option that may be there
abbrev pub maybe : Text → Option Text → List (Text × Text) → List (Text × Text)
maybe name None rest = rest
maybe name (Some v) rest = (name, v) ∷ rest

abbrev pub bounds_pairs : Option Text → Option Text → List (Text × Text)
bounds_pairs degree pivot = maybe (codes "degree") degree (maybe (codes "pivot") pivot [])

abbrev pub run_pairs : Option Text → Option Text → Option Text → List (Text × Text)
run_pairs steps cells degree = maybe (codes "steps") steps (maybe (codes "cells") cells (maybe (codes "degree") degree []))

abbrev pub degree_pairs : Option Text → List (Text × Text)
degree_pairs degree = maybe (codes "degree") degree []

abbrev pub spend_pairs : Option Text → Option Text → List (Text × Text)
spend_pairs steps cells = maybe (codes "steps") steps (maybe (codes "cells") cells [])

-- ---- what `clap` takes

abbrev pub accepted : ℕ → ℕ → Option Text → Bool
accepted least most None = true
accepted least most (Some v) = is_unsigned_in least most v

abbrev pub has_one : List Text → Bool
has_one (a ∷ []) = true
has_one _ = false

abbrev pub has_two : List Text → Bool
has_two (a ∷ b ∷ []) = true
has_two _ = false

abbrev pub has_three : List Text → Bool
has_three (a ∷ b ∷ c ∷ []) = true
has_three _ = false

abbrev pub has_four : List Text → Bool
has_four (a ∷ b ∷ c ∷ d ∷ []) = true
has_four _ = false
