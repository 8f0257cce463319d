use Rattle.std.proofs.Common.{◌≡◌, ◌∙◌, Some, slice_get, map, ap, subst}
use Rattle.raml_syntax.specs.Read.{function_of}
use Rattle.raml_syntax.specs.declared.program.Program.{Program}
use Rattle.rules_walk.specs.Read.{plan_of}
use Rattle.share_normal.specs.Program.{source_in}
use Rattle.explain_origins.specs.Paths.{origin_at}
use Rattle.explain_origins.proofs.Bodies.{read_at, normal_body, in_function}
use Rattle.explain_origins.proofs.body.origin.Goals as goal

pub returns : goal.returns
returns c =
    let kept = c.args.program.now in
    let P = source_in kept in
    let f = c.args.fun.0 in
    let fun = c.in_ok-function.function.now in
    let look = c.in_ok-function.ensures.lookup in
    let plan = plan_of c.args.plan.now in
    let path = c.args.path.now in
    let listed = c.deref.ensures.value ∙ ap (λ (p : Program). p.funs.items) c.source.ensures.source in
    let there = subst (λ funs. slice_get (map function_of funs) f ≡ Some (function_of fun)) listed (read_at function_of c.deref.result.now f fun look.1 look.3.0) in
    let form = subst (λ gs. slice_get gs f ≡ Some c.fun.result.now) c.functions.ensures.functions c.fun.ensures in
    let body = normal_body P kept.results kept.functions f c.fun.result.now (function_of fun) c.functions.ensures.norm form there in
    c.origin.ensures ∙ (λ i. origin_at plan (body i) (c.of.ensures i) path) ∙ in_function P f (function_of fun) plan path there
