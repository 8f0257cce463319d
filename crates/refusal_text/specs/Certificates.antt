-- The lines of certificates that are refused.
use Rattle.std.specs.Prelude.{ℕ, List, [], ◌++◌, Option, Some, None, codes, decimal}
use Rattle.raml_syntax.specs.Tree.{Text, Prog}
use Rattle.constraint_gen.specs.declared.fault.What.TheVariants.{Indices}
use Rattle.cert_json.specs.declared.whole.JsonFault.{JsonFault}
use Rattle.cert_json.specs.declared.whole.JsonFault.TheVariants as j
use Rattle.cert_json.specs.declared.whole.Place.{Place}
use Rattle.cert_json.specs.declared.whole.Place.TheVariants.{Head, Block}
use Rattle.cert_check.specs.Fault.{Fault, Shape, Fails, Leaves, TooLarge}
use Rattle.refusal_text.specs.Tasks.{too_large_line}
use Rattle.refusal_text.specs.declared.task.Analysed.TheVariants as analysed
use Rattle.refusal_text.specs.Places.{condition_text, check_line}

abbrev pub part_text : Place → Text
part_text Head = codes "head"
part_text (Block number) = codes "block " ++ decimal number

-- why a text is no certificate; want of memory is none
abbrev pub json_text : JsonFault → Text
json_text j.NotJson = codes "not json"
json_text (j.Shape place) = codes "shape in " ++ part_text place
json_text (j.Number place) = codes "number in " ++ part_text place
json_text j.NoMemory = []

abbrev pub json_line : JsonFault → Text
json_line fault = codes "raml: certificate: " ++ json_text fault ++ codes "\n"

-- a block, or another number of them, is not what the schedule has there
abbrev pub shape_line : ℕ → Text
shape_line block = codes "raml: certificate: block " ++ decimal block ++ codes " is not in the schedule\n"

-- a condition of a block is not met
abbrev pub fails_line : ℕ → List ℕ → ℕ → Text
fails_line block path index =
    codes "raml: certificate: block " ++ decimal block ++ codes " fails at " ++ condition_text path index ++ codes "\n"

-- the vector of a block refutes nothing
abbrev pub not_refuted_line : ℕ → Text
not_refuted_line block = codes "raml: certificate: block " ++ decimal block ++ codes " does not refute\n"

-- the first fault of a certificate that is checked; want of memory is none
abbrev pub certificate_line : Prog → List (List ℕ) → Option Fault → Text
certificate_line P groups None = []
certificate_line P groups (Some (Shape block)) = shape_line block
certificate_line P groups (Some (Fails block path index)) = fails_line block path index
certificate_line P groups (Some (Leaves block path index)) = check_line analysed.Program block path index
certificate_line P groups (Some (TooLarge task)) = too_large_line analysed.Program P groups task Indices
