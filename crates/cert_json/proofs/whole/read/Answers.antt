use Rattle.serde_json.specs.View.{view}
use Rattle.serde_json.specs.Errors.{IsMemory}
use Rattle.cert_json.proofs.Answering.{value_answers, unread_answers}
use Rattle.cert_json.proofs.whole.read.Goals as goal

pub returns-in-Ok : goal.returns-in-Ok
returns-in-Ok c =
    let a = value_answers c.args.bytes.now (view c.in-Ok.value) c.certificate.result c.in-Ok.ensures.ok.0 c.in-Ok.ensures.ok.1 c.certificate.ensures in
    record { read = a.is_read; exact = a.exact; refused = a.refused; faults = a.faults; back = a.back }

pub returns-in-Err : goal.returns-in-Err
returns-in-Err c =
    let a = unread_answers c.args.bytes.now (IsMemory c.in-Err.error) c.unread.result c.in-Err.ensures.err c.unread.ensures in
    record { read = a.is_read; exact = a.exact; refused = a.refused; faults = a.faults; back = a.back }
