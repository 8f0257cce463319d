use Rattle.std.proofs.Common.{sym, ap, ◌∙◌}
use Rattle.normal_spec.specs.Read.{parameters_of}
use Rattle.annot_types.specs.Signature.{cost_sig}
use Rattle.annot_types.specs.Read.{sig_of, blocks_of, certificate_of}
use Rattle.rules_plan.specs.Read.{program_in}
use Rattle.cert_check.proofs.Signed.{params_annotated, params_few}
use Rattle.cert_check.proofs.bound.bound_of.Goals as goal

pub poly_of-requires-clause-within : goal.poly_of-requires-clause-within
poly_of-requires-clause-within c =
    let P = program_in c.args.program.now in
    params_annotated P (certificate_of c.args.certificate.now) c.requires.held c.args.meter c.args.fun.0 (sig_of c.in-Some-cost_sig.sig.now)
    (parameters_of c.in-Some.params.now) c.in-Some.ensures
    (sym (c.in-Some-cost_sig.ensures ∙ ap (λ bs. cost_sig P c.args.meter (blocks_of bs) c.args.fun.0) c.deref.ensures.value))

pub poly_of-requires-clause-few : goal.poly_of-requires-clause-few
poly_of-requires-clause-few c =
    let P = program_in c.args.program.now in
    params_few P (certificate_of c.args.certificate.now) c.requires.held c.args.meter c.args.fun.0 (sig_of c.in-Some-cost_sig.sig.now) c.requires.small
    (parameters_of c.in-Some.params.now) c.in-Some.ensures
    (sym (c.in-Some-cost_sig.ensures ∙ ap (λ bs. cost_sig P c.args.meter (blocks_of bs) c.args.fun.0) c.deref.ensures.value))
