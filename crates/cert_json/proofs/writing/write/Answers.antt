use Rattle.cert_json.proofs.Answering.{has_text, is_written, is_file}
use Rattle.serde_json.specs.View.{view}
use Rattle.annot_types.specs.Read.{certificate_of}
use Rattle.cert_json.proofs.writing.write.Goals as goal

pub returns-clause-text : goal.returns-clause-text
returns-clause-text c = has_text c.to_vec.result (view c.in_ok-certificate_json.field-0) c.args.certificate.now c.in_ok-certificate_json.ensures.value c.to_vec.ensures.text

pub returns-clause-written : goal.returns-clause-written
returns-clause-written c =
    is_written c.to_vec.result (view c.in_ok-certificate_json.field-0) c.args.certificate.now c.in_ok-certificate_json.ensures.value c.in_ok-certificate_json.ensures.numbers c.to_vec.ensures.utf8
    c.to_vec.ensures.reads_back

pub returns-clause-file : goal.returns-clause-file
returns-clause-file c = is_file c.to_vec.result (certificate_of c.args.certificate.now) (returns-clause-text c) (returns-clause-written c)
