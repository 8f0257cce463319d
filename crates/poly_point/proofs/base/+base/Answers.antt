use Rattle.std.proofs.Common.{◌≡◌, ◌+◌, ◌-◌, ◌*◌, ◌<◌, [], ◌∷◌, length, refl, sym, ◌∙◌, arith}
use Rattle.std.proofs.lemmas.List.{length-map, length-set}
use Rattle.std.proofs.lemmas.List.Elements.{All-nil, All-cons, All-same}
use Rattle.base_poly.specs.Plain.{many}
use Rattle.base_poly.specs.Read.{index_of, plains_of}
use Rattle.base_poly.proofs.Height.{parts}
use Rattle.value_text.specs.Heap.{IsBelow}
use Rattle.poly_point.specs.Walk.{value, waiting_elements}
use Rattle.poly_point.proofs.Raised.{from_some, from_none, parts_fit, entry_parts, entry_degree, step_fits, step_rest, step_done}
use Rattle.poly_point.proofs.Sums.{few_entries, walk_begins, small_next, can_be_raised, walk_on, walk_ends}
use Rattle.poly_point.proofs.base.+base.Goals as goal

pub both-overflow_mul-result : goal.both-overflow_mul-result
both-overflow_mul-result t c =
    let all = parts_fit _ _ _ _ _ _ _ c.requires.small.1 c.requires.low c.in-Some.ensures.some c.in_ok-count-in-Some.ensures c.in_ok-base-in-Some.ensures in
    omega (arith, all)

pub over-loop-waiting-init : goal.over-loop-waiting-init
over-loop-waiting-init t c =
    let P = IsBelow (length c.args.heap.now.cells) in
    record {
      below = All-same P _ _ c.in_ok-waiting.ensures.items (All-cons P c.args.word [] c.requires.small.0 (All-nil P));
      len = refl;
      walked = walk_begins _ _ _ _ c.in_ok-waiting.ensures.items;
    }

pub over-raise-requires : goal.over-raise-requires
over-raise-requires t c =
    let cells = c.args.heap.now.cells in
    let next = from_some (λ w. waiting_elements cells c.loop-waiting.waiting.items ≡ value cells w ∷ waiting_elements cells c.next.new.waiting.items) _ _ c.in_ok-element.ensures.some c.in-Some.is in
    let below = from_some (IsBelow (length cells)) _ _ c.in_ok-element.ensures.below c.in-Some.is in
    let is = plains_of c.args.entries.now in
    let few = few_entries is in
    let long = length-map c.args.entries.now index_of in
    let walked = c.loop-waiting.invariant.walked in
    let falls : 3 * parts (many is) < t = omega (arith, c.decreases) in (
      falls,
      (
        (below, small_next cells is (value cells c.args.word) c.requires.small.1 c.requires.low _ _ c.next.new.waiting.items (value cells c.in-Some.element) walked next),
        (
          c.requires.low,
          (omega (arith, few, long, c.requires.low, c.loop-waiting.invariant.len), can_be_raised cells is (value cells c.args.word) c.requires.small.1 c.requires.low _ _ c.next.new.waiting.items (value cells c.in-Some.element) walked next),
        ),
      ),
    )

pub over-loop-waiting-preserved : goal.over-loop-waiting-preserved
over-loop-waiting-preserved t c =
    let cells = c.args.heap.now.cells in
    let next = from_some (λ w. waiting_elements cells c.loop-waiting.waiting.items ≡ value cells w ∷ waiting_elements cells c.next.new.waiting.items) _ _ c.in_ok-element.ensures.some c.in-Some.is in
    record {
      below = c.in_ok-element.ensures.left;
      len = c.in_ok-raise.ensures.len ∙ c.loop-waiting.invariant.len;
      walked = walk_on cells (plains_of c.args.entries.now) (value cells c.args.word) c.requires.small.1 c.requires.low _ _ _ _ c.loop-waiting.invariant.walked next _ c.in_ok-raise.ensures.raised;
    }

pub over-bounds-sums-entries : goal.over-bounds-sums-entries
over-bounds-sums-entries t c =
    let few = few_entries (plains_of c.args.entries.now) in let long = length-map c.args.entries.now index_of in omega (arith, few, long, c.requires.low)

pub over-returns : goal.over-returns
over-returns t c =
    let none = from_none _ _ c.in_ok-element.ensures.none c.in_default.not-Some in
    let ends = walk_ends _ (plains_of c.args.entries.now) _ _ _ c.loop-waiting.invariant.walked none in
    rw (sym (length-map c.args.entries.now index_of)) ends

pub raise-base-requires : goal.raise-base-requires
raise-base-requires t c =
    let es = c.args.entries.now in
    let x = c.index-entries-place.result in
    let place : c.loop-place.place - 1 < length es = omega (arith, c.loop-place-test.true, c.loop-place.invariant.within) in
    let fewer = entry_parts es _ x place c.index-entries-place.is in
    let lower = entry_degree es _ x place c.index-entries-place.is in
    let falls : 3 * parts (index_of x) + 2 < t = omega (arith, fewer, c.decreases) in
    (falls, (c.requires.small, omega (arith, lower, c.requires.low)))

pub raise-overflow_mul-sums : goal.raise-overflow_mul-sums
raise-overflow_mul-sums t c =
    let all = step_fits c.args.entries.now (value c.args.heap.now.cells c.args.element) c.args.sums.now c.loop-place.sums c.loop-place.place c.index-entries-place.result c.in_ok-sums.field-0
    c.loop-place-test.true c.loop-place.invariant.within c.index-entries-place.is c.in_ok-sums.ensures c.loop-place.invariant.rest c.requires.fits in
    omega (arith, all)

pub raise-overflow_add-sums-in-loop-place : goal.raise-overflow_add-sums-in-loop-place
raise-overflow_add-sums-in-loop-place t c =
    let all = step_fits c.args.entries.now (value c.args.heap.now.cells c.args.element) c.args.sums.now c.loop-place.sums c.loop-place.place c.index-entries-place.result c.in_ok-sums.field-0
    c.loop-place-test.true c.loop-place.invariant.within c.index-entries-place.is c.in_ok-sums.ensures c.loop-place.invariant.rest c.requires.fits in
    omega (arith, all)

pub raise-loop-place-preserved : goal.raise-loop-place-preserved
raise-loop-place-preserved t c =
    let es = c.args.entries.now in
    let v = value c.args.heap.now.cells c.args.element in
    let i = c.loop-place.invariant in
    record {
      within = omega (arith, i.within);
      len = length-set _ _ _ ∙ i.len;
      done = step_done es v c.args.sums.now c.loop-place.sums c.loop-place.place c.index-entries-place.result c.in_ok-sums.field-0
          c.loop-place-test.true i.within c.index-entries-place.is c.in_ok-sums.ensures i.rest _ refl (omega (arith, i.within, i.len, c.requires.room)) i.done;
      rest = step_rest es v c.args.sums.now c.loop-place.sums c.loop-place.place c.index-entries-place.result c.in_ok-sums.field-0
          c.loop-place-test.true i.within c.index-entries-place.is c.in_ok-sums.ensures i.rest _ refl;
    }
