use Rattle.std.proofs.Common.{◌≡◌, ◌≤◌, ◌++◌, drop, map}
use Rattle.std.specs.List.{All}
use Rattle.raml_syntax.specs.Tree.{Function}
use Rattle.raml_syntax.specs.Node.{program_nodes, AllNodes, NumberFits}
use Rattle.raml_syntax.specs.Read.{program_of, function_of}
use Rattle.stack_compile.specs.Code.{body_of}
use Rattle.stack_compile.specs.Read.{body_in}
use Rattle.stack_compile.proofs.code.compile_all.Given as goal

abbrev pub invariant-loop-fun : goal.invariant-loop-fun
invariant-loop-fun l =
    (map body_in l.bodies.items ++ map (body_of (program_of l.functions.program.now)) (map function_of (drop l.fun-index l.funs)) ≡ map (body_of (program_of l.functions.program.now)) (map function_of l.funs))
    × (program_nodes (map function_of (drop l.fun-index l.funs)) ≤ program_nodes (map function_of l.funs))
    × (All (λ (g : Function). AllNodes NumberFits g.body) (map function_of (drop l.fun-index l.funs)) → All (λ (g : Function). AllNodes NumberFits g.body) (map function_of l.funs))
