use Rattle.bound_file.proofs.Answered.{files_have_one_answer}
use Rattle.bound_file.proofs.laws.files_have_one_answer.Goals as goal

pub returns : goal.returns
returns c = files_have_one_answer
