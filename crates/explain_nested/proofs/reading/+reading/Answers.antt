use Rattle.std.proofs.Common.{rules, ◌<◌, ◌+◌, ◌++◌, ◌^◌, length, sym, ap, ◌∙◌, arith}
use Rattle.std.proofs.lemmas.List.{length-map}
use Rattle.std.proofs.lemmas.Result.{on_ok_weaker, IfOk-weaker}
use Rattle.base_poly.specs.Plain.{degrees}
use Rattle.base_poly.specs.Read.{index_of, plains_of}
use Rattle.explain_nested.specs.Reading.{names_in}
use Rattle.explain_nested.specs.Read.{place_of, pieces_of}
use Rattle.explain_nested.proofs.Walking.{entries_few, list_choices, list_elements, entry_few, entry_pieces, entry_next, list_low, pair_pieces, pair_next, piece_before, held_is, at_named, next_named}
use Rattle.explain_nested.proofs.reading.+reading.Goals as goal

pub append_held-returns-clause-pieces : goal.append_held-returns-clause-pieces
append_held-returns-clause-pieces t c =
    on_ok_weaker c.append.result
    (λ e. piece_before (pieces_of c.args.pieces.now.items) _ _ _ _ _ c.in_ok-push_held.ensures e (held_is (index_of c.args.entry.now) (place_of c.args.place.now) _ c.args.next c.named.ensures))
    c.append.ensures.pieces

pub append_held-returns-clause-next : goal.append_held-returns-clause-next
append_held-returns-clause-next t c =
    IfOk-weaker c.append.result _ _
    (λ after e.
    let same = ap names_in (held_is (index_of c.args.entry.now) (place_of c.args.place.now) _ c.args.next c.named.ensures) in
    omega (arith, e, same))
    c.append.ensures.next

pub append_list-overflow_add-next : goal.append_list-overflow_add-next
append_list-overflow_add-next t c =
    let long = length-map c.args.entries.now index_of in
    let few = entries_few (plains_of c.args.entries.now) c.args.next (length c.args.entries.now) long c.requires.low c.requires.few in
    let fits : c.args.next + length c.args.entries.now < 2 ^ 64 = omega (arith, few.1) in
    search rules

pub append_list-append_entries-requires : goal.append_list-append_entries-requires
append_list-append_entries-requires t c =
    let long = length-map c.args.entries.now index_of in
    let few = entries_few (plains_of c.args.entries.now) c.args.next (length c.args.entries.now) long c.requires.low c.requires.few in
    (search rules, (omega arith, (few.0, few.1)))

pub append_list-returns-in_ok-push_choices-clause-pieces : goal.append_list-returns-in_ok-push_choices-clause-pieces
append_list-returns-in_ok-push_choices-clause-pieces t c =
    let long = length-map c.args.entries.now index_of in
    c.in_ok-push_choices.ensures
    ∙ ap (λ l. pieces_of c.args.pieces.now.items ++ l)
    (sym (list_choices (plains_of c.args.entries.now) (place_of c.args.place.now) c.args.next (length c.args.entries.now) long c.if-count-eq0.false (sym c.are_zero.ensures ∙ c.if-are_zero.true)))

pub append_list-returns-in_ok-push_choices-clause-next : goal.append_list-returns-in_ok-push_choices-clause-next
append_list-returns-in_ok-push_choices-clause-next t c =
    let long = length-map c.args.entries.now index_of in
    let same =
    ap names_in (list_choices (plains_of c.args.entries.now) (place_of c.args.place.now) c.args.next (length c.args.entries.now) long c.if-count-eq0.false (sym c.are_zero.ensures ∙ c.if-are_zero.true)) in
    omega (arith, same)

pub append_list-returns-in_ok-push_elements-clause-pieces : goal.append_list-returns-in_ok-push_elements-clause-pieces
append_list-returns-in_ok-push_elements-clause-pieces t c =
    let long = length-map c.args.entries.now index_of in
    on_ok_weaker c.append_entries.result
    (λ e. piece_before (pieces_of c.args.pieces.now.items) _ _ _ _ _ c.in_ok-push_elements.ensures e
    (list_elements (plains_of c.args.entries.now) (place_of c.args.place.now) c.args.next (length c.args.entries.now) long c.if-count-eq0.false (sym c.are_zero.ensures ∙ c.if-are_zero.false)))
    c.append_entries.ensures.pieces

pub append_list-returns-in_ok-push_elements-clause-next : goal.append_list-returns-in_ok-push_elements-clause-next
append_list-returns-in_ok-push_elements-clause-next t c =
    let long = length-map c.args.entries.now index_of in
    IfOk-weaker c.append_entries.result _ _
    (λ after e.
    let same =
    ap names_in (list_elements (plains_of c.args.entries.now) (place_of c.args.place.now) c.args.next (length c.args.entries.now) long c.if-count-eq0.false (sym c.are_zero.ensures ∙ c.if-are_zero.false)) in
    omega (arith, e, same))
    c.append_entries.ensures.next

pub append_entries-loop-entry-preserved : goal.append_entries-loop-entry-preserved
append_entries-loop-entry-preserved t c =
    let es = c.args.entries.now in
    let k = c.loop-entry.entry-index in
    let x = c.entry-item.result in
    let number = c.loop-entry.number in
    let after = c.loop-entry.after in
    let last = c.in_ok-after.after in
    let seen = c.loop-entry.invariant in
    let hn = next_named (index_of x) _ number after last c.named.ensures c.in_ok-after.ensures.next in
    let hm = at_named (index_of x) _ number after (pieces_of c.loop-entry.pieces.items) _ c.named.ensures c.in_ok-after.ensures.pieces in
    let few = entry_few es k x c.loop-entry-test.true c.entry-item.is number after last hn (c.args.next + degrees (plains_of c.args.entries.now)) seen.low seen.few seen.low_after in
    record {
      low = few.0;
      few = few.1;
      number = omega (arith, seen.number);
      low_after = few.2;
      pieces = entry_pieces es k x c.loop-entry-test.true c.entry-item.is number after last hn (pieces_of c.loop-entry.pieces.items) _ _ hm seen.pieces;
      next = entry_next es k x c.loop-entry-test.true c.entry-item.is number after last hn _ seen.next;
    }

pub append-returns-in_ok-after-in-Pair-clause-pieces : goal.append-returns-in_ok-after-in-Pair-clause-pieces
append-returns-in_ok-after-in-Pair-clause-pieces t c =
    on_ok_weaker c.append-in-Pair.result
    (λ e. pair_pieces c.args.index.now c.deref.result.now c.deref-in-Pair.result.now _ _ (place_of c.args.place.now) _ _ c.args.next c.in_ok-after-in-Pair.after c.in-Pair.is c.deref.ensures c.deref-in-Pair.ensures
    c.in_ok-left-in-Pair.ensures c.in_ok-right-in-Pair.ensures c.in_ok-after-in-Pair.ensures.next (pieces_of c.args.pieces.now.items) _ _ c.in_ok-after-in-Pair.ensures.pieces e)
    c.append-in-Pair.ensures.pieces

pub append-returns-in_ok-after-in-Pair-clause-next : goal.append-returns-in_ok-after-in-Pair-clause-next
append-returns-in_ok-after-in-Pair-clause-next t c =
    IfOk-weaker c.append-in-Pair.result _ _
    (λ last e. pair_next c.args.index.now c.deref.result.now c.deref-in-Pair.result.now _ _ (place_of c.args.place.now) _ _ c.args.next c.in_ok-after-in-Pair.after c.in-Pair.is c.deref.ensures c.deref-in-Pair.ensures
    c.in_ok-left-in-Pair.ensures c.in_ok-right-in-Pair.ensures c.in_ok-after-in-Pair.ensures.next last e)
    c.append-in-Pair.ensures.next

pub append_list-returns-in_ok-push_elements-clause-low : goal.append_list-returns-in_ok-push_elements-clause-low
append_list-returns-in_ok-push_elements-clause-low t c =
    let long = length-map c.args.entries.now index_of in
    IfOk-weaker c.append_entries.result _ _
    (λ after e. list_low (plains_of c.args.entries.now) c.args.next (length c.args.entries.now) after long e)
    c.append_entries.ensures.low
