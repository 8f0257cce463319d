use Rattle.std.proofs.Common.{sym, ap, ◌∙◌, subst, arith}
use Rattle.base_poly.specs.Indices.{Ascends, each_in_turn, tuples_up_to}
use Rattle.base_poly.specs.Read.{context_of}
use Rattle.base_poly.proofs.Exact.{tuples_ascend}
use Rattle.base_poly.proofs.Graded.{low_tuples}
use Rattle.index_shift.proofs.local.carried_alone.Goals as goal

pub places-requires : goal.places-requires
places-requires c = subst (λ ts. Ascends each_in_turn ts) (sym c.in_ok-tuples_up_to.ensures.all) (tuples_ascend (context_of c.args.to.now) c.from-5.result)

pub middles-requires-clause-low : goal.middles-requires-clause-low
middles-requires-clause-low c =
    let d = c.ranges.d in
    low_tuples (context_of c.args.from.now) c.args.d c.deref.result.now (c.deref.ensures.value ∙ c.in_ok-tuples.ensures.all ∙ ap (tuples_up_to (context_of c.args.from.now)) c.from-3.ensures) (omega arith)
