use Rattle.std.proofs.Common.{◌*◌, length, sym, ap, subst, ◌∙◌, arith}
use Rattle.std.proofs.lemmas.List.{length-map}
use Rattle.base_poly.specs.Plain.{many}
use Rattle.base_poly.specs.Read.{index_of, plains_of}
use Rattle.base_poly.specs.declared.index.Index.TheVariants.{Opt}
use Rattle.base_poly.proofs.Many.{as_pair, as_some}
use Rattle.explain_sizes.specs.Sizes.{Elements}
use Rattle.explain_sizes.specs.Counts.{counts, each_counts}
use Rattle.explain_sizes.specs.Read.{sizes_of}
use Rattle.explain_sizes.specs.Shares.{Holds}
use Rattle.explain_sizes.proofs.Reading.{as_elements, pair_elsewhere, option_elsewhere, list_nowhere, some_entries, nothing_left, pair_counted, few_entries, list_counted, entry_counted, rest_low}
use Rattle.explain_sizes.proofs.counted.+counted.Goals as goal

pub counted-returns-in-Pair-size-clause-holds : goal.counted-returns-in-Pair-size-clause-holds
counted-returns-in-Pair-size-clause-holds t c = λ n h.
    subst (λ m. Holds c.args.den m c.counted-in-Pair-size.result)
    (pair_counted n c.args.index.now c.args.size.now _ _ _ _ _ _ _ _ c.in-Pair.is c.in-Pair-size.is c.deref.ensures c.deref-in-Pair-size.ensures c.deref-in-Pair-size-2.ensures c.deref-in-Pair-size-3.ensures)
    (c.counted-in-Pair-size.ensures.holds _ (c.counted.ensures.holds n h))

pub counted-returns-in-Unit-size-clause-holds : goal.counted-returns-in-Unit-size-clause-holds
counted-returns-in-Unit-size-clause-holds t c = λ n h.
    nothing_left c.args.den n _ c.nothing.result
    (ap (λ i. counts i (sizes_of c.args.size.now)) (as_pair c.args.index.now _ _ c.in-Pair.is) ∙ pair_elsewhere _ _ c.args.size.now c.in-Unit-size.is)
    (c.nothing.ensures.holds c.args.den)

pub counted-returns-in-Unit-size-2-clause-holds : goal.counted-returns-in-Unit-size-2-clause-holds
counted-returns-in-Unit-size-2-clause-holds t c = λ n h.
    nothing_left c.args.den n _ c.nothing-in-Unit-size-2.result
    (ap (λ i. counts i (sizes_of c.args.size.now)) (as_some c.args.index.now _ (c.in-Opt.is ∙ ap Opt c.in-Some.is)) ∙ option_elsewhere _ c.args.size.now c.in-Unit-size-2.is)
    (c.nothing-in-Unit-size-2.ensures.holds c.args.den)

pub listed-choices-some-requires : goal.listed-choices-some-requires
listed-choices-some-requires t c =
    let few = few_entries (plains_of c.args.entries.now) in let long = length-map c.args.entries.now index_of in omega (arith, few, long, c.requires.low)

pub listed-returns-in-List-clause-holds : goal.listed-returns-in-List-clause-holds
listed-returns-in-List-clause-holds t c = λ n h.
    let long = length-map c.args.entries.now index_of in
    let elements = as_elements c.args.size.now _ _ c.in-List.is ∙ ap (λ s. Elements c.in-List.count (sizes_of s)) (sym c.deref.ensures) in
    subst (λ m. Holds c.args.den m c.each_counted.result)
    (list_counted n c.in-List.count (length c.args.entries.now) _ _ (plains_of c.args.entries.now) _ _ long (some_entries _ (sym c.is_empty.ensures ∙ c.if-is_empty.false)) elements c.choices-some.ensures)
    (c.each_counted.ensures.holds _ (c.times-chosen.ensures.holds _ (c.times.ensures.holds n h)))

pub listed-returns-in-Unit-clause-holds : goal.listed-returns-in-Unit-clause-holds
listed-returns-in-Unit-clause-holds t c = λ n h.
    nothing_left c.args.den n _ c.nothing.result
    (list_nowhere (plains_of c.args.entries.now) (length c.args.entries.now) c.args.size.now (length-map c.args.entries.now index_of)
    (some_entries _ (sym c.is_empty.ensures ∙ c.if-is_empty.false)) c.in-Unit.is)
    (c.nothing.ensures.holds c.args.den)

pub each_counted-loop-entry-preserved : goal.each_counted-loop-entry-preserved
each_counted-loop-entry-preserved t c =
    let es = c.args.entries.now in
    let k = c.loop-entry.entry-index in
    let x = c.entry-item.result in
    record {
      low = rest_low es k x c.loop-entry-test.true c.entry-item.is c.loop-entry.invariant.low;
      proper = c.counted-share.ensures.proper;
      holds = λ n h.
          let seen = c.loop-entry.invariant.holds n h in
          let z = sizes_of c.args.each.now in (
            seen.0 * counts (index_of x) z,
            c.counted-share.ensures.holds seen.0 seen.1,
            entry_counted es k x c.loop-entry-test.true c.entry-item.is seen.0 (n * each_counts (many (plains_of es)) z) z seen.2,
          );
    }
