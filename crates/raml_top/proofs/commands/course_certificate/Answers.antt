use Rattle.std.proofs.Common.{sym, subst}
use Rattle.rules_plan.specs.Read.{program_in}
use Rattle.cert_json.specs.Told.{IsComplete}
use Rattle.refusal_text.specs.declared.task.Analysed.TheVariants as analysed
use Rattle.raml_promise.specs.Outside.{Sound}
use Rattle.raml_promise.specs.Promise.{PrintsCertificate}
use Rattle.raml_parts.specs.Parts.{Gives}
use Rattle.raml_parts.proofs.Proved.{course_given, course_denied, completes}
use Rattle.raml_top.proofs.commands.course_certificate.Goals as goal

pub certificate_report-requires : goal.certificate_report-requires
certificate_report-requires c =
    subst IsComplete (sym c.certificate.ensures.certificate)
    (completes (program_in c.args.program.now) c.args.degree c.args.rule c.in-Ok.verified.certificate c.in-Ok.ensures.course c.in-Ok.ensures.proved.valid.held)

pub returns-in-Ok : goal.returns-in-Ok
returns-in-Ok c =
    course_given analysed.Program c.args.program.now c.args.degree c.args.rule (λ c. PrintsCertificate Sound c) c.in-Ok.verified.certificate c.in-Ok.ensures.course c.in-Ok.ensures.proved c.in-Ok.ensures.least
    c.certificate_report.result (subst (λ cert. Gives (PrintsCertificate Sound cert) c.certificate_report.result) c.certificate.ensures.certificate c.certificate_report.ensures)

pub returns-in-Err : goal.returns-in-Err
returns-in-Err c = course_denied analysed.Program c.args.program.now c.args.degree c.args.rule (λ c. PrintsCertificate Sound c) c.in-Err.refusal c.in-Err.ensures.err
