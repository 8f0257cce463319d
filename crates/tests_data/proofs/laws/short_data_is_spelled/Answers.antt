use Rattle.tests_data.proofs.SpelledData.{data_is_spelled}
use Rattle.tests_data.proofs.laws.short_data_is_spelled.Goals as goal

pub returns : goal.returns
returns c = data_is_spelled
