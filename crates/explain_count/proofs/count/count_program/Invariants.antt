use Rattle.std.proofs.Common.{◌≡◌, ◌++◌, map, drop}
use Rattle.raml_syntax.specs.Read.{function_of}
use Rattle.call_groups.specs.Read.{ids_of}
use Rattle.explain_count.specs.Count.{counting_from, count_program}
use Rattle.explain_count.proofs.count.count_program.Given as goal

abbrev pub invariant-loop-fun : goal.invariant-loop-fun
invariant-loop-fun l = record {
  made : map function_of l.funs.items ++ counting_from l.place (ids_of l.group) (map function_of (drop l.fun-index l.program.funs.items)) ≡ count_program (ids_of l.group) (map function_of l.program.funs.items);
  place : l.place ≡ l.fun-index;
}
