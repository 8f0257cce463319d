use Rattle.normal_spec.proofs.Keep.{normal_forms_keep}
use Rattle.normal_spec.proofs.laws.normal_forms_keep.Goals as goal

pub returns : goal.returns
returns c = normal_forms_keep
