-- Files of arguments.
use Rattle.std.specs.Prelude.{◌≡◌, ◌≤◌, ◌⊎◌, Bool, true, false, List, [], ◌∷◌, ◌++◌, length, Option, Some, None, Ok}
use Rattle.std.specs.Global.{Vec}
use Rattle.std.specs.List.{All}
use Rattle.raml_syntax.specs.Tree.{Text, Type'}
use Rattle.raml_syntax.specs.Value.{Value}
use Rattle.value_text.specs.Reading.{Answers}
use Rattle.explain_check.specs.Stores.{Store, Holds, Unread}
use Rattle.explain_data.specs.Data.{DataFaultIs, most_data_bytes}
use Rattle.explain_words.specs.Commands.{texts}
use Rattle.explain_words.specs.declared.request.plot.Arguments.{Arguments}
use Rattle.explain_words.specs.declared.request.plot.Arguments.TheVariants as arguments
use Rattle.explain_marks.specs.declared.marks.Given.{Given}

-- the files of arguments that are given; there are none where they are made
abbrev pub names_of : Arguments → List Text
names_of (arguments.Made sizes seed) = []
names_of (arguments.Given files) = texts files.items

abbrev pub AreShort : List Given → Type 0
AreShort = All (λ (file : Given). length file.bytes.items ≤ most_data_bytes)

-- this is what the files of these names hold
abbrev pub AreHeld : Store → List Text → List Given → Type 0
AreHeld store [] [] = Unit {0}
AreHeld store (name ∷ names) (file ∷ files) =
    (file.name.now ≡ name) × Holds store name file.bytes.items × (length file.bytes.items ≤ most_data_bytes) × AreHeld store names files
AreHeld store names files = ⊥

-- one of the files is not read
abbrev pub LacksFile : Store → List Text → Text → Type 0
LacksFile store [] part = ⊥
LacksFile store (name ∷ names) part = Unread store most_data_bytes name part ⊎ LacksFile store names part

-- all are read, behind others, or one is not
abbrev pub ReadsOn : Store → List Text → Bool → List Given → List Given → Text → Type 0
ReadsOn store names true old new part = (files : List Given) × AreHeld store names files × (new ≡ old ++ files) × (part ≡ [])
ReadsOn store names false old new part = LacksFile store names part

abbrev pub AreRead : Store → List Text → Option (Vec Given) → Text → Type 0
AreRead store names (Some files) part = AreHeld store names files.items × (part ≡ [])
AreRead store names None part = LacksFile store names part

-- the file spells arguments of the types
abbrev pub SpellsArguments : List Type' → Given → Type 0
SpellsArguments types file = (values : List Value) × Answers file.bytes.items types (Ok values)

-- one of the files spells no arguments of the types, and those before it do
abbrev pub SomeUnfit : List Type' → List Given → Text → Type 0
SomeUnfit types [] part = ⊥
SomeUnfit types (file ∷ files) part =
    DataFaultIs file.name.now file.bytes.items types part ⊎ (SpellsArguments types file × SomeUnfit types files part)

abbrev pub Fit : List Type' → List Given → Bool → Text → Type 0
Fit types files true part = All (SpellsArguments types) files × (part ≡ [])
Fit types files false part = SomeUnfit types files part
