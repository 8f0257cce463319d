-- What a function in normal form has beside the type of its results.
use Rattle.std.specs.Prelude.{ℕ, List}
use Rattle.raml_syntax.specs.Tree.{Type', Function, Prog}
use Rattle.normal_spec.specs.Norm as n
use Rattle.normal_spec.specs.Two.{norm_fun}
use Rattle.normal_spec.specs.Read.{norm_of, parameters_of}
use Rattle.normal_spec.specs.declared.form.NormFun.{NormFun}

-- a function's parameters as variables, and its body
abbrev pub Parts : Type 0
Parts = List (ℕ × Type') × n.Norm

abbrev pub parts_in : NormFun → Parts
parts_in g = (parameters_of g.params.items, norm_of g.body)

abbrev pub parts_of : n.NormFun → Parts
parts_of g = (g.params, g.body)

abbrev pub normal_parts : Prog → Function → Parts
normal_parts P g = parts_of (norm_fun P g)

abbrev pub result_of : Function → Type'
result_of g = g.result
