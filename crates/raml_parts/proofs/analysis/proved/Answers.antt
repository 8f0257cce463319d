use Rattle.std.proofs.Common.{subst}
use Rattle.share_normal.specs.Program.{Kept}
use Rattle.rules_plan.specs.Read.{program_in}
use Rattle.annot_types.specs.System.{Valid}
use Rattle.infer_spec.specs.Good.{AllRefuted}
use Rattle.raml_parts.proofs.Proved.{is_proved}
use Rattle.raml_parts.proofs.analysis.proved.Goals as goal

pub returns : goal.returns
returns c =
    let cert = c.args.verified.now.certificate in
    is_proved c.lines_are_true.ensures c.lines_tell.ensures c.args.program.now c.source-source.ensures.typed c.source-source.ensures.numbers c.functions-functions.ensures.norm cert
    (subst (λ (k : Kept). Valid (program_in k) cert) c.requires c.certificate-certificate.ensures.valid)
    (subst (λ (k : Kept). AllRefuted (program_in k) cert) c.requires c.certificate-certificate.ensures.refuted)
