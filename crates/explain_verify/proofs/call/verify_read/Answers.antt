use Rattle.std.proofs.Common.{ap, refl, string_bytes}
use Rattle.raml_syntax.specs.Read.{program_of}
use Rattle.annot_types.specs.Read.{certificate_of}
use Rattle.explain_verify.proofs.Verifying.{fails_told}
use Rattle.explain_verify.proofs.call.verify_read.Goals as goal

pub returns : goal.returns
returns c =
    let files = c.args.files in
    let normal = c.in_ok-program.ensures in
    rw c.deref.ensures.value at
    (fails_told files.file.now c.deref.result.now files.certificate.now c.in_ok-program.program c.in_ok-outline.outline (program_of files.source.now.typed) (certificate_of c.args.certificate)
    (ap program_of normal.source) normal.groups normal.normal c.in_ok-outline.ensures c.in-Err.fault (string_bytes c.args.text.now) _ (string_bytes c.args.report.now) _ c.push_fault.result
    c.in-Err.ensures.fault refl c.push_fault.ensures)
