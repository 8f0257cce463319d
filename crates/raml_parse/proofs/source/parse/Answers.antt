use Rattle.raml_parse.proofs.OneAnswer.{one_answer}
use Rattle.raml_parse.proofs.source.parse.Goals as goal

pub returns-in-Ok-clause-one_answer : goal.returns-in-Ok-clause-one_answer
returns-in-Ok-clause-one_answer c = one_answer c.args.source.now

pub returns-in-Err-clause-one_answer : goal.returns-in-Err-clause-one_answer
returns-in-Err-clause-one_answer c = one_answer c.args.source.now
