use Rattle.std.proofs.Common.{sym, ◌∙◌}
use Rattle.base_poly.specs.Plain.{alike}
use Rattle.index_shift.proofs.Placed.{none_placed}
use Rattle.tuple_ranks.proofs.slots.place_of.Goals as goal

pub returns-in-None : goal.returns-in-None
returns-in-None c = c.len.ensures.len ∙ none_placed (alike c.args.tuple.now) c.args.places.now.keys (sym c.get_index_of.ensures.index ∙ c.in-None.is)
