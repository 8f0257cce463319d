use Rattle.std.proofs.Common.{◌≡◌, ◌++◌, map, drop}
use Rattle.raml_syntax.specs.Tree.{Function}
use Rattle.raml_syntax.specs.Read.{program_of, function_of}
use Rattle.call_groups.specs.Read.{rows_of}
use Rattle.call_groups.specs.Sets.{none}
use Rattle.call_groups.specs.Table.{marked, call_table}
use Rattle.call_groups.proofs.calls.call_rows.Given as goal

abbrev pub invariant-loop-fun : goal.invariant-loop-fun
invariant-loop-fun l =
    rows_of l.rows.items ++ map (λ (h : Function). marked (program_of l.program) h.body none) (map function_of (drop l.fun-index l.program.funs.items)) ≡ call_table (program_of l.program)
