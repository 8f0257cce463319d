use Rattle.std.proofs.Common.{[], refl, sym, inl, string_bytes}
use Rattle.std.proofs.lemmas.List.{append-nil}
use Rattle.raml_syntax.specs.Read.{program_of}
use Rattle.annot_types.specs.Read.{certificate_of}
use Rattle.explain_verify.proofs.Calling.{of_certificate}
use Rattle.explain_verify.proofs.call.verify_bytes.Goals as goal

pub returns-in-Ok : goal.returns-in-Ok
returns-in-Ok c =
    let files = c.args.files in
    of_certificate files.file.now files.source.now.bytes.items files.certificate.now (program_of files.source.now.typed) c.args.bytes.now (certificate_of c.in-Ok.certificate)
    (string_bytes c.args.text.now) (string_bytes c.verify_read.new.text) (string_bytes c.args.report.now) (string_bytes c.verify_read.new.report) c.verify_read.result
    c.in-Ok.ensures.read c.verify_read.ensures

pub returns-in_ok-push_error-in-Some : goal.returns-in_ok-push_error-in-Some
returns-in_ok-push_error-in-Some c = ([], _, inl (c.in-Err.fault, c.in-Some.why.now, c.in-Err.ensures.refused, c.in-Some.ensures, refl, refl, refl), sym (append-nil _), c.in_ok-push_error-in-Some.ensures)
