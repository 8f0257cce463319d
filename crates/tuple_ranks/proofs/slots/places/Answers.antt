use Rattle.std.proofs.Common.{[], ap, sym, ◌∙◌}
use Rattle.indexmap.specs.IndexSet.{insert_key}
use Rattle.base_poly.specs.Plain.{alike}
use Rattle.index_shift.proofs.Placed.{one_inserted}
use Rattle.tuple_ranks.proofs.slots.places.Goals as goal

pub loop-tuple-preserved : goal.loop-tuple-preserved
loop-tuple-preserved c = c.in_ok-insert.ensures.keys ∙ ap (λ ks. insert_key alike ks c.in-Some.tuple) c.loop-tuple.invariant ∙ sym (one_inserted [] c.loop-tuple.yielded c.in-Some.tuple)
