use Rattle.annot_types.proofs.Multiples.{multiples_hold}
use Rattle.annot_types.proofs.laws.multiples_hold.Goals as goal

pub returns : goal.returns
returns c = multiples_hold
