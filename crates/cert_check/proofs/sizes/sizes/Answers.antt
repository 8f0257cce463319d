use Rattle.std.proofs.Common.{◌<◌, length, sym, subst, rules}
use Rattle.std.specs.Prelude.{slice_get}
use Rattle.std.proofs.lemmas.List.{length-map}
use Rattle.std.proofs.Math.ListN.{get_or-map}
use Rattle.raml_syntax.specs.declared.program.FunId.{FunId}
use Rattle.rules_plan.specs.Read.{program_in}
use Rattle.rules_plan.specs.Within.{FunctionWithin}
use Rattle.cert_check.proofs.sizes.sizes.Goals as goal

pub fun_sizes-requires : goal.fun_sizes-requires
fun_sizes-requires c =
    let k = c.loop-fun.fun-index in
    let fs = c.args.functions.now in
    let low : k < length fs = search rules in
    let id = λ (f : FunId). f.0 in
    subst (λ f. FunctionWithin 2000 (slice_get (program_in c.args.program.now).funs f) c.args.d) (get_or-map id fs k (record { 0 = 0 }))
    (c.requires k 0 (subst (λ n. k < n) (sym (length-map fs id)) low))
