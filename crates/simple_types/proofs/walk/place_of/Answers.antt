use Rattle.std.proofs.Common.{sym}
use Rattle.simple_types.proofs.Forms.{term_place}
use Rattle.simple_types.proofs.walk.place_of.Goals as goal

pub returns : goal.returns
returns c = sym (term_place c.args.e.now)
