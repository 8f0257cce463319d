-- What made texts spell.
use Rattle.std.specs.Prelude.{◌≡◌, List, [], ◌∷◌, ◌++◌, map, codes}
use Rattle.raml_syntax.specs.Tree.{Text, Type', Parameter, ListOf}
use Rattle.raml_syntax.specs.Value.{Value, Has, HaveTypes}
use Rattle.raml_syntax.specs.Read.{list_value, parameter_of}
use Rattle.raml_syntax.specs.declared.program.Param.{Param}
use Rattle.value_text.specs.Spelling.{spell_all, spell_more}
use Rattle.value_text.specs.Printing.{printed, text_of}

-- the types of parameters
abbrev pub types_in : List Param → List Type'
types_in params = map (λ (p : Parameter). p.type) (map parameter_of params)

-- the text is that of arguments of the types: of one value, or of several in parentheses
pub record AreArguments (types : List Type') (text : Text) : Type 0 where
  pub values : List Value
  pub typed : HaveTypes values types
  pub is : text ≡ text_of (spell_all values types)

-- the text of a value of the type was appended
pub record AddsValue (A : Type') (old new : Text) : Type 0 where
  pub value : Value
  pub has : Has value A
  pub grows : new ≡ old ++ printed value A

-- elements behind the first of a list, each behind a comma
abbrev pub listed : List Value → Type' → Text
listed [] A = []
listed (x ∷ xs) A = codes ", " ++ (printed x A ++ listed xs A)

-- the texts of such elements were appended
pub record AddsItems (A : Type') (old new : Text) : Type 0 where
  pub values : List Value
  pub have : Has (list_value values) (ListOf A)
  pub grows : new ≡ old ++ listed values A

-- the texts of the arguments of these types behind the first of several were appended, up to the last sign
pub record AddsMore (types : List Type') (old new : Text) : Type 0 where
  pub values : List Value
  pub typed : HaveTypes values types
  pub grows : new ≡ old ++ text_of (spell_more values types [])

-- the text of arguments of the types was appended
pub record AddsArguments (types : List Type') (old new : Text) : Type 0 where
  pub values : List Value
  pub typed : HaveTypes values types
  pub grows : new ≡ old ++ text_of (spell_all values types)
