use Rattle.std.proofs.Common.{◌≡◌, ◌<◌, ◌∙◌, ap, length, subst, Some, slice_get, rules, arith}
use Rattle.std.proofs.lemmas.Bool.Decides.{nat_tests}
use Rattle.base_poly.specs.Read.{context_of}
use Rattle.constraint_gen.proofs.Functions.{result_there, there_at}
use Rattle.constraint_gen.proofs.task.result_types.Goals as goal

pub returns : goal.returns
returns c =
    let there : slice_get c.args.program.now.results c.args.fun.0 ≡ Some c.index-results-place.result =
    let rs = c.results-2.ensures.results in
    let low : c.args.fun.0 < length c.results-2.result.now = grind (arith, nat_tests, c.if-place-results.false, ap length rs, ap length c.results.ensures.results) in
    subst (λ xs. slice_get xs c.args.fun.0 ≡ Some c.index-results-place.result) rs (there_at c.results-2.result.now c.args.fun.0 c.index-results-place.result low c.index-results-place.is) in
    let counts : length c.args.program.now.results ≡ length c.args.program.now.functions = search rules in
    ap context_of c.from_ref.ensures.value ∙ result_there c.args.program.now.results c.args.program.now.functions c.args.fun.0 c.index-results-place.result counts there
