use Rattle.std.proofs.Common.{◌≡◌, ap, sym, ◌∙◌, subst, length, filter, [], arith}
use Rattle.std.specs.Option.{option_map}
use Rattle.std.proofs.lemmas.List.{length-map}
use Rattle.normal_spec.specs.Two.{norm_fun}
use Rattle.call_groups.specs.Groups.{AreInOrder}
use Rattle.share_normal.specs.Program.{source_in}
use Rattle.annot_types.specs.Held.{is_for_function, Held}
use Rattle.annot_types.specs.Read.{block_of, certificate_of}
use Rattle.infer_spec.specs.Good.{AllRefuted}
use Rattle.rules_plan.specs.Read.{program_in}
use Rattle.cert_check.specs.Bound.{told, told_of}
use Rattle.bound_infer.proofs.OneBlock.{one_block}
use Rattle.bound_infer.proofs.Lined.{fun_there, bound_there, one_line, tells}
use Rattle.bound_infer.proofs.verified.Verified.line.Goals as goal

pub block_for-requires : goal.block_for-requires
block_for-requires c =
    let K = c.args.self.now.program in
    let C = c.args.self.now.certificate in
    let held = subst (λ v. Held (program_in v.program) v.certificate) c.self.view_is c.self.invariant.0.held in
    let kp : c.program-program.result.now ≡ K = c.program-program.ensures ∙ ap (λ v. v.program) c.self.view_is in
    let kc : certificate_of c.certificate-certificate.result.now ≡ C = c.certificate-certificate.ensures.certificate ∙ ap (λ v. v.certificate) c.self.view_is in
    let order = subst (λ k. AreInOrder (source_in k) [] (program_in k).groups) kp c.groups-groups.ensures.grouping.in_order in
    let one = one_block (source_in K) (program_in K) order C held c.args.fun.0 c.requires.fun c.args.meter c.requires.meter in
    (one.0, (λ i. filter (is_for_function (program_in (kp i)) c.args.meter c.args.fun.0) (kc i).blocks) ∙ one.1)

pub told-requires : goal.told-requires
told-requires c =
    let K = c.args.self.now.program in
    let C = c.args.self.now.certificate in
    let P = program_in K in
    let f = c.args.fun.0 in
    let held = subst (λ v. Held (program_in v.program) v.certificate) c.self.view_is c.self.invariant.0.held in
    let kp : c.program-program.result.now ≡ K = c.program-program.ensures ∙ ap (λ v. v.program) c.self.view_is in
    let kc : certificate_of c.certificate-certificate.result.now ≡ C = c.certificate-certificate.ensures.certificate ∙ ap (λ v. v.certificate) c.self.view_is in
    let one = (λ i. filter (is_for_function (program_in (sym kp i)) c.args.meter f) (sym kc i).blocks) ∙ c.block_for.ensures in
    let is : option_map told_of c.in_ok-bound.bound ≡ told P C f c.args.meter = c.in_ok-bound.ensures.told ∙ (λ i. told (program_in (c.self.view_is i).program) (c.self.view_is i).certificate f c.args.meter) in
    let count : length P.funs ≡ length (source_in K) = subst (λ k. length (program_in k).funs ≡ length (source_in k)) kp
    (ap length c.functions-functions.ensures.norm ∙ length-map (source_in c.program-program.result.now) (norm_fun (source_in c.program-program.result.now))) in
    let g = fun_there P.funs f (let low = c.requires.fun in omega (arith, low, count)) in
    bound_there P C held f c.args.meter (block_of c.block_for.result.now) one g.0 g.1 c.in_ok-bound.bound is

pub returns-clause-line : goal.returns-clause-line
returns-clause-line c =
    let K = c.args.self.now.program in
    let C = c.args.self.now.certificate in
    let P = program_in K in
    let f = c.args.fun.0 in
    let held = subst (λ v. Held (program_in v.program) v.certificate) c.self.view_is c.self.invariant.0.held in
    let kp : c.program-program.result.now ≡ K = c.program-program.ensures ∙ ap (λ v. v.program) c.self.view_is in
    let kc : certificate_of c.certificate-certificate.result.now ≡ C = c.certificate-certificate.ensures.certificate ∙ ap (λ v. v.certificate) c.self.view_is in
    let one = (λ i. filter (is_for_function (program_in (sym kp i)) c.args.meter f) (sym kc i).blocks) ∙ c.block_for.ensures in
    let is : option_map told_of c.in_ok-bound.bound ≡ told P C f c.args.meter = c.in_ok-bound.ensures.told ∙ (λ i. told (program_in (c.self.view_is i).program) (c.self.view_is i).certificate f c.args.meter) in
    one_line P C held f c.args.meter (block_of c.block_for.result.now) one c.in_ok-bound.bound is c.told.result c.told.ensures

pub returns-clause-tells : goal.returns-clause-tells
returns-clause-tells c =
    let K = c.args.self.now.program in
    let C = c.args.self.now.certificate in
    let P = program_in K in
    let f = c.args.fun.0 in
    let held = subst (λ v. Held (program_in v.program) v.certificate) c.self.view_is c.self.invariant.0.held in
    let refuted = subst (λ v. AllRefuted (program_in v.program) v.certificate) c.self.view_is c.self.invariant.1 in
    let kp : c.program-program.result.now ≡ K = c.program-program.ensures ∙ ap (λ v. v.program) c.self.view_is in
    let kc : certificate_of c.certificate-certificate.result.now ≡ C = c.certificate-certificate.ensures.certificate ∙ ap (λ v. v.certificate) c.self.view_is in
    let one = (λ i. filter (is_for_function (program_in (sym kp i)) c.args.meter f) (sym kc i).blocks) ∙ c.block_for.ensures in
    let is : option_map told_of c.in_ok-bound.bound ≡ told P C f c.args.meter = c.in_ok-bound.ensures.told ∙ (λ i. told (program_in (c.self.view_is i).program) (c.self.view_is i).certificate f c.args.meter) in
    tells P C held f c.args.meter (block_of c.block_for.result.now) one c.in_ok-bound.bound is refuted c.told.result c.told.ensures
