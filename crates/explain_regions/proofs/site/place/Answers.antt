use Rattle.std.proofs.Common.{sym}
use Rattle.simple_types.proofs.Forms.{term_place}
use Rattle.explain_regions.proofs.site.place.Goals as goal

pub returns : goal.returns
returns c = sym (term_place c.args.e.now)
