use Rattle.std.proofs.Common.{◌≡◌, ◌-◌, ◌<◌, ◌++◌, [], ◌∷◌, length, IfOk, IsErrOf, sym, ap, ◌∙◌, subst, rules, arith, length-append}
use Rattle.std.proofs.lemmas.Grind.{common_steps}
use Rattle.raml_syntax.specs.Read.{ty_of}
use Rattle.base_poly.specs.Plain.{Pair}
use Rattle.base_poly.specs.Indices.{tuples_led, lists, indices_up_to}
use Rattle.base_poly.specs.Read.{plains_of}
use Rattle.base_poly.specs.declared.fault.IndexFault.TheVariants.{TooMany}
use Rattle.base_poly.proofs.Height.{pair_of_parts}
use Rattle.base_poly.proofs.Longer.{some_index, some_list, longer, part_within, part_done, low_head, lists_step}
use Rattle.base_poly.proofs.list.+of_type.Goals as goal

pub indices_up_to-returns-in-Pair-clause-all : goal.indices_up_to-returns-in-Pair-clause-all
indices_up_to-returns-in-Pair-clause-all t c =
    subst (λ T. IfOk c.pairs_up_to.result (λ found. plains_of found.items ≡ indices_up_to T c.args.d))
    (pair_of_parts _ _ _ _ _ c.in-Pair.is c.deref.ensures c.deref-in-Pair.ensures) c.pairs_up_to.ensures.all

pub indices_up_to-returns-in-Pair-clause-many : goal.indices_up_to-returns-in-Pair-clause-many
indices_up_to-returns-in-Pair-clause-many t c =
    subst (λ T. IsErrOf c.pairs_up_to.result TooMany → c.args.most < length (indices_up_to T c.args.d))
    (pair_of_parts _ _ _ _ _ c.in-Pair.is c.deref.ensures c.deref-in-Pair.ensures) c.pairs_up_to.ensures.many

pub pairs_up_to-returns-in_err-heads-clause-many : goal.pairs_up_to-returns-in_err-heads-clause-many
pairs_up_to-returns-in_err-heads-clause-many t c =
    let all = longer (indices_up_to (ty_of c.args.second.now)) Pair c.args.d (some_index (ty_of c.args.second.now)) (indices_up_to (ty_of c.args.first.now) c.args.d) in
    grind (arith, common_steps, all)

pub pairs_up_to-append_pairs_by_head-requires : goal.pairs_up_to-append_pairs_by_head-requires
pairs_up_to-append_pairs_by_head-requires t c = (search rules, (c.loop-head.invariant.few, low_head (ty_of c.args.first.now) c.args.d _ _ _ c.loop-head.invariant.heads c.loop-head-test.true c.head-item.is))

pub pairs_up_to-loop-head-preserved : goal.pairs_up_to-loop-head-preserved
pairs_up_to-loop-head-preserved t c = record {
  heads = c.loop-head.invariant.heads;
  done = part_done (indices_up_to (ty_of c.args.second.now)) Pair c.args.d _ _ _ _ _ _ c.loop-head-test.true c.head-item.is c.in_ok-append_pairs_by_head.ensures.all c.loop-head.invariant.done;
  few = c.in_ok-append_pairs_by_head.ensures.few;
}

pub with_nonempty_lists-returns-in_err-heads-clause-many : goal.with_nonempty_lists-returns-in_err-heads-clause-many
with_nonempty_lists-returns-in_err-heads-clause-many t c =
    let all = longer (λ k. lists (indices_up_to (ty_of c.args.element.now)) k k) ◌∷◌ c.args.d (λ k. some_list (indices_up_to (ty_of c.args.element.now)) k k) (indices_up_to (ty_of c.args.element.now) c.args.d) in
    grind (arith, common_steps, all)

pub with_nonempty_lists-append_lists_by_head-requires : goal.with_nonempty_lists-append_lists_by_head-requires
with_nonempty_lists-append_lists_by_head-requires t c = (search rules, (c.loop-head.invariant.few, low_head (ty_of c.args.element.now) c.args.d _ _ _ c.loop-head.invariant.heads c.loop-head-test.true c.head-item.is))

pub with_nonempty_lists-returns-in_err-append_lists_by_head-clause-many : goal.with_nonempty_lists-returns-in_err-append_lists_by_head-clause-many
with_nonempty_lists-returns-in_err-append_lists_by_head-clause-many t c =
    let part = part_within (λ k. lists (indices_up_to (ty_of c.args.element.now)) k k) ◌∷◌ c.args.d _ _ _ _ _ c.loop-head-test.true c.head-item.is c.loop-head.invariant.done in
    let whole = length-append c.args.found.items (tuples_led (λ k. lists (indices_up_to (ty_of c.args.element.now)) k k) c.args.d (plains_of c.deref-head-items.result.now)) in
    let heads = ap (λ hs. length (tuples_led (λ k. lists (indices_up_to (ty_of c.args.element.now)) k k) c.args.d hs)) c.loop-head.invariant.heads in
    grind (arith, common_steps, part, whole, heads)

pub with_nonempty_lists-loop-head-preserved : goal.with_nonempty_lists-loop-head-preserved
with_nonempty_lists-loop-head-preserved t c = record {
  heads = c.loop-head.invariant.heads;
  done = part_done (λ k. lists (indices_up_to (ty_of c.args.element.now)) k k) ◌∷◌ c.args.d _ _ _ _ _ _ c.loop-head-test.true c.head-item.is c.in_ok-append_lists_by_head.ensures.all c.loop-head.invariant.done;
  few = c.in_ok-append_lists_by_head.ensures.few;
}

pub lists_up_to-returns-clause-all : goal.lists_up_to-returns-clause-all
lists_up_to-returns-clause-all t c =
    let items = indices_up_to (ty_of c.args.element.now) in
    let none = c.in_ok-found.ensures.all ∙ ap (λ t. t ∷ []) (c.new-2.ensures ∙ ap plains_of c.new.ensures.items) in
    subst (λ w. IfOk c.with_nonempty_lists.result (λ found. found.items ≡ w))
    ((λ i. none i ++ tuples_led (λ k. lists items k k) (c.args.d - 1) (items (c.args.d - 1))) ∙ sym (lists_step items c.args.d (omega (arith, c.if-d-eq0.false)))) c.with_nonempty_lists.ensures.all

pub lists_up_to-returns-clause-many : goal.lists_up_to-returns-clause-many
lists_up_to-returns-clause-many t c =
    let items = indices_up_to (ty_of c.args.element.now) in
    let rest = tuples_led (λ k. lists items k k) (c.args.d - 1) (items (c.args.d - 1)) in
    let none = c.in_ok-found.ensures.all ∙ ap (λ t. t ∷ []) (c.new-2.ensures ∙ ap plains_of c.new.ensures.items) in
    let whole = ap length ((λ i. none i ++ rest) ∙ sym (lists_step items c.args.d (omega (arith, c.if-d-eq0.false)))) in
    let parts = length-append c.in_ok-found.found.items rest in
    λ e. let more = c.with_nonempty_lists.ensures.many e in omega (arith, whole, parts, more)
