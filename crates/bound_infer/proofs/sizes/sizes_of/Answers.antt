use Rattle.std.proofs.Common.{◌≡◌, ◌<◌, ap, sym, ◌∙◌, length, rules, ◌∷◌, []}
use Rattle.std.specs.Prelude.{slice_get, slice_index_or}
use Rattle.raml_syntax.specs.Read.{ty_of}
use Rattle.normal_spec.specs.Context.{types}
use Rattle.normal_spec.specs.Read.{parameters_of}
use Rattle.annot_types.specs.Rows.{size as size_of}
use Rattle.bound_infer.specs.Sized.{sizes_in}
use Rattle.bound_infer.proofs.Sizing.{function_there}
use Rattle.bound_infer.proofs.sizes.sizes_of.Goals as goal

pub returns : goal.returns
returns c =
    let kept = c.args.program.now in
    let k = c.args.fun.0 in
    let low : k < length kept.results = search rules in
    let there = function_there kept.results kept.functions k c.fun.result.now c.index-results-fun.result low
    (ap (λ fs. slice_get fs k) (sym c.functions-functions.ensures.functions) ∙ c.fun.ensures) in
    let args : c.in_ok-args.args ≡ size_of (types (parameters_of c.fun.result.now.params.items)) c.args.d =
    c.in_ok-args.ensures ∙ ap (λ ps. size_of (types (parameters_of ps)) c.args.d) c.deref.ensures.value in
    let result : c.in_ok-result.result ≡ size_of (ty_of (slice_index_or kept.results k c.index-results-fun.result) ∷ []) c.args.d = search rules in
    (λ i. (args i, result i)) ∙ sym (ap (sizes_in c.args.d) there)
