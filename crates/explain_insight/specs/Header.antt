-- The headers of functions, as a source has them.
use Rattle.std.specs.Prelude.{List, [], ◌∷◌, ◌++◌, codes}
use Rattle.raml_syntax.specs.Tree.{Text, Parameter, Function}
use Rattle.simple_types.specs.Text.{type_text}

-- `l : int list`
abbrev pub parameter_text : Parameter → Text
parameter_text p = (p.name ++ codes " : ") ++ type_text p.type

abbrev pub parameters_behind : List Parameter → Text
parameters_behind [] = []
parameters_behind (p ∷ ps) = codes ", " ++ (parameter_text p ++ parameters_behind ps)

abbrev pub parameters_text : List Parameter → Text
parameters_text [] = []
parameters_text (p ∷ ps) = parameter_text p ++ parameters_behind ps

-- `fun sum(l : int list, all : bool) : int`
abbrev pub header : Function → Text
header g = ((((codes "fun " ++ g.name) ++ codes "(") ++ parameters_text g.params) ++ codes ") : ") ++ type_text g.result
