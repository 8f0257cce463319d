use Rattle.std.proofs.Common.{◌≡◌, ◌++◌, map, drop}
use Rattle.raml_syntax.specs.Read.{function_of}
use Rattle.call_groups.specs.Read.{ids_of}
use Rattle.explain_regions.specs.Read.{plain_lines}
use Rattle.explain_profile.specs.Reached.{lines_of}
use Rattle.explain_profile.proofs.lines.lines_in.Given as goal

abbrev pub invariant-loop-fun : goal.invariant-loop-fun
invariant-loop-fun l = record {
  made : plain_lines l.found.items ++ lines_of l.source (ids_of l.funs) l.place (map function_of (drop l.fun-index l.program.funs.items))
      ≡ lines_of l.source (ids_of l.funs) 0 (map function_of l.program.funs.items);
  place : l.place ≡ l.fun-index;
}
