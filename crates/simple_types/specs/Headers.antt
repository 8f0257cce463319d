-- The names of parameters.
use Rattle.std.specs.Prelude.{List, map}
use Rattle.raml_syntax.specs.Tree.{Text}
use Rattle.raml_syntax.specs.declared.program.Param.{Param}

abbrev pub names_in : List Param → List Text
names_in params = map (λ (p : Param). p.name) params
