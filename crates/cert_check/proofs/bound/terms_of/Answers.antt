use Rattle.std.proofs.Common.{◌∙◌, pos, length, slice_index_or, FitsSigned, rules}
use Rattle.std.proofs.lemmas.Int.{to_z-of_z}
use Rattle.std.specs.Int.{w128}
use Rattle.cert_check.proofs.Terms.{within_at, next_over}
use Rattle.cert_check.proofs.bound.terms_of.Goals as goal

pub bounds-tuples-position : goal.bounds-tuples-position
bounds-tuples-position c = within_at (length c.args.tuples.now) c.args.entries.now c.requires c.loop-position.position-index (0, pos 0) c.loop-position-test.true

pub loop-position-preserved : goal.loop-position-preserved
loop-position-preserved c =
    let fits : FitsSigned w128 (slice_index_or c.args.entries.now c.loop-position.position-index (0, pos 0)).1 = search rules in
    next_over c.args.tuples.now c.args.entries.now c.loop-position.terms.items _ _ c.loop-position.position-index (0, pos 0) c.in_ok-tuple.tuple c.index-tuples-position.result
    c.requires c.loop-position-test.true (c.in_ok-tuple.ensures ∙ c.index-tuples-position.is)
    (simp (to_z-of_z w128 _ fits) at c.in_ok-push.ensures.items) c.loop-position.invariant
