-- What the code's sizes, faults and parameters are as plain data.
use Rattle.std.specs.Prelude.{◌≡◌, ℕ, Option, Some, List, map, Result, Ok, Err, String, string_bytes}
use Rattle.std.specs.Global.{Global}
use Rattle.raml_syntax.specs.Tree.{Text, Type', Parameter}
use Rattle.raml_syntax.specs.Read.{parameter_of}
use Rattle.raml_syntax.specs.declared.program.Param.{Param}
use Rattle.explain_sizes.specs.Sizes.{Sizes}
use Rattle.explain_sizes.specs.Open.{OpenSizes, all_filled}
use Rattle.explain_at.specs.Words as w
use Rattle.explain_at.specs.Asked as a
use Rattle.explain_at.specs.declared.given.Given.{Given}
use Rattle.explain_at.specs.declared.fault.WordFault.{WordFault}
use Rattle.explain_at.specs.declared.fault.WordFault.TheVariants as word
use Rattle.explain_at.specs.declared.fault.SizeFault.{SizeFault}
use Rattle.explain_at.specs.declared.fault.SizeFault.TheVariants as size

abbrev pub given_of : Given → w.Given
given_of g = (g.name.now, g.number)

abbrev pub all_given : List Given → List w.Given
all_given gs = map given_of gs

abbrev pub texts : List (String Global) → List Text
texts ss = map string_bytes ss

-- names and types of parameters, also of the code's
abbrev pub names_and_types : List Parameter → List (Text × Type')
names_and_types ps = map (λ (p : Parameter). (p.name, p.type)) ps

abbrev pub parameters : List Param → List (Text × Type')
parameters ps = names_and_types (map parameter_of ps)

-- it is the fault of the result, or memory ran out
abbrev pub IsWordFault : {A : Type 0} → Result A w.Fault → WordFault → Type 0
IsWordFault r (word.Shape text) = r ≡ Err (w.Shape text.now)
IsWordFault r (word.Long text) = r ≡ Err (w.Long text.now)
IsWordFault r (word.Twice name) = r ≡ Err (w.Twice name.now)
IsWordFault r word.NoMemory = Unit {0}

abbrev pub IsSizeFault : {A : Type 0} → Result A a.Fault → SizeFault → Type 0
IsSizeFault r (size.Unknown name) = r ≡ Err (a.Unknown name.now)
IsSizeFault r (size.NotGiven name) = r ≡ Err (a.NotGiven (string_bytes name))
IsSizeFault r size.NoneOpen = r ≡ Err a.NoneOpen
IsSizeFault r (size.TwoOpen name other) = r ≡ Err (a.TwoOpen (string_bytes name) (string_bytes other))
IsSizeFault r size.NoMemory = Unit {0}

-- a word's size or its fault
abbrev pub IsWord : Result w.Given w.Fault → Result Given WordFault → Type 0
IsWord r (Ok g) = r ≡ Ok (given_of g)
IsWord r (Err fault) = IsWordFault r fault

-- the sizes of the result, with whatever number in the place of open ones
abbrev pub AreFilled : Result (List OpenSizes) a.Fault → List Sizes → Type 0
AreFilled r ss = (os : List OpenSizes) × (r ≡ Ok os) × ((n : ℕ) → all_filled n os ≡ ss)

-- it tells this name
abbrev pub IsUnknown : Option Text → SizeFault → Type 0
IsUnknown x (size.Unknown name) = x ≡ Some name.now
IsUnknown x _ = ⊥
