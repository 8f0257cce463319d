use Rattle.std.proofs.Common.{SFits, rules, ap, ◌∙◌}
use Rattle.std.specs.Prelude.{unsigned_abs}
use Rattle.std.specs.Int.{w128}
use Rattle.std.proofs.lemmas.Int.{to_z-of_z}
use Rattle.base_poly.specs.Poly.{magnitudes}
use Rattle.explain_sizes.specs.Counts.{tuple_counts, worth_at}
use Rattle.explain_sizes.specs.Read.{all_sizes}
use Rattle.explain_sizes.proofs.Told.{term_counted}
use Rattle.explain_sizes.proofs.value.terms_counted.Goals as goal

pub loop-tuple-preserved : goal.loop-tuple-preserved
loop-tuple-preserved c =
    let ts = c.args.terms.now in
    let ss = all_sizes c.args.sizes.now in
    let seen = c.loop-tuple.invariant.seen in
    let fits : SFits w128 c.loop-tuple-item.result.1 = search rules in
    let number = c.unsigned_abs.ensures.value ∙ ap unsigned_abs (to_z-of_z w128 c.loop-tuple-item.result.1 fits) in
    let term = c.tuple_counted-term.ensures.holds _ (c.times-coefficient.ensures.holds 1 c.one.ensures.holds) in
    record {
      proper = c.sum-so_far.ensures.proper;
      seen = (
        _,
        c.sum-so_far.ensures.holds seen.0 _ seen.1 term,
        term_counted ts c.loop-tuple.tuple-index c.loop-tuple-item.result ss seen.0 _ _ (worth_at (magnitudes ts) ss) c.loop-tuple-test.true c.loop-tuple-item.is
            number (ap (λ t. tuple_counts t ss) c.parts.ensures) seen.2,
      );
    }
