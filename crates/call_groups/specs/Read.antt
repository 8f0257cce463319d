-- What sets and lists of functions are as plain data.
use Rattle.std.specs.Prelude.{ℕ, List, map}
use Rattle.std.specs.Global.{Vec}
use Rattle.raml_syntax.specs.declared.program.FunId.{FunId}
use Rattle.call_groups.specs.declared.function_set.FunctionSet.{FunctionSet}
use Rattle.call_groups.specs.Sets.{Members, has}

abbrev pub ids_of : List FunId → List ℕ
ids_of fs = map (λ (f : FunId). f.0) fs

abbrev pub lists_of : List (Vec FunId) → List (List ℕ)
lists_of gs = map (λ (g : Vec FunId). ids_of g.items) gs

abbrev pub rows_of : List FunctionSet → List Members
rows_of rows = map has rows
