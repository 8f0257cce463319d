use Rattle.cost_free.proofs.Components.{is_same}
use Rattle.cost_free.proofs.holder.same_type.Goals as goal

pub returns : goal.returns
returns c = is_same _ _ _ c.same.ensures
