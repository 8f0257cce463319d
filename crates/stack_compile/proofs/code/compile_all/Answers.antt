use Rattle.raml_syntax.specs.Tree.{Function}
use Rattle.raml_syntax.specs.Read.{function_of}
use Rattle.std.proofs.Common.{◌≤◌, length, subst, sym, ap, ◌∙◌, arith}
use Rattle.std.proofs.lemmas.List.{get_or-map, length-map}
use Rattle.stack_compile.proofs.code.compile_all.Goals as goal

pub compile_function-requires-clause-parameters : goal.compile_function-requires-clause-parameters
compile_function-requires-clause-parameters c =
    let funs = c.args.funs.now in
    let fun = c.fun-item.result in
    let inside = c.loop-fun-test.true in
    let is = get_or-map function_of funs c.loop-fun.fun-index fun (function_of fun) inside ∙ ap function_of (sym c.fun-item.is) in
    subst (λ (g : Function). length g.params ≤ 8) is (c.requires.parameters c.loop-fun.fun-index (function_of fun) (omega (arith, inside, length-map funs function_of)))
