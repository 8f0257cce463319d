use Rattle.annot_types.specs.Read.{certificate_of}
use Rattle.raml_parts.proofs.verification.verified.Goals as goal

pub returns-in-Err-clause-err : goal.returns-in-Err-clause-err
returns-in-Err-clause-err c = c.verify_refusal.ensures (certificate_of c.args.certificate) c.in-Err.ensures.fault
