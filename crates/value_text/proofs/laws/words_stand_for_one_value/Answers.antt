use Rattle.value_text.proofs.Standing.{stands_once}
use Rattle.value_text.proofs.laws.words_stand_for_one_value.Goals as goal

pub returns : goal.returns
returns c = stands_once
