use Rattle.price_file.proofs.Tables.{one_answer}
use Rattle.price_file.proofs.Answered.{table_answered, fault_answered}
use Rattle.price_file.proofs.table.read.Goals as goal

pub returns-in-Ok-clause-table : goal.returns-in-Ok-clause-table
returns-in-Ok-clause-table c = table_answered c.in-Ok.text.now c.args.bytes.now c.read_text.result c.in-Ok.ensures.cases c.read_text.ensures

pub returns-in-Ok-clause-fault : goal.returns-in-Ok-clause-fault
returns-in-Ok-clause-fault c = fault_answered c.in-Ok.text.now c.args.bytes.now c.read_text.result c.in-Ok.ensures.cases c.read_text.ensures

pub returns-in-Ok-clause-one_answer : goal.returns-in-Ok-clause-one_answer
returns-in-Ok-clause-one_answer c = one_answer c.args.bytes.now

pub returns-in-Err-clause-one_answer : goal.returns-in-Err-clause-one_answer
returns-in-Err-clause-one_answer c = one_answer c.args.bytes.now
