use Rattle.std.proofs.Common.{◌≡◌, [], map, drop, length}
use Rattle.raml_syntax.specs.Tree.{Parameter}
use Rattle.raml_syntax.specs.Read.{parameter_of}
use Rattle.simple_types.specs.Table.{numbered_all}
use Rattle.simple_types.proofs.functions.param_types.Given as goal

abbrev pub invariant-loop-param : goal.invariant-loop-param
invariant-loop-param l = record {
  ids : numbered_all l.types.nodes.keys l.ids.items (map (λ (p : Parameter). p.type) (map parameter_of (drop l.param-index l.params))) ≡ numbered_all l.fn.types.nodes.keys [] (map (λ (p : Parameter). p.type) (map parameter_of l.params));
  as_many : length l.ids.items ≡ l.param-index;
}
