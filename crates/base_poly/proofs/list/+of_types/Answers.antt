use Rattle.std.proofs.Common.{◌≡◌, ◌<◌, ◌+◌, ◌-◌, ◌∷◌, ◌++◌, map, length, OnOk, IsErrOf, sym, ap, ◌∙◌, subst, rules, arith, length-append}
use Rattle.std.proofs.lemmas.Grind.{common_steps}
use Rattle.std.proofs.lemmas.List.{length-map}
use Rattle.raml_syntax.specs.Read.{ty_of}
use Rattle.base_poly.specs.Plain.{deg}
use Rattle.base_poly.specs.Indices.{tuples_led, indices_up_to, tuples_up_to}
use Rattle.base_poly.specs.Read.{index_of, plains_of, context_of}
use Rattle.base_poly.specs.declared.fault.IndexFault.TheVariants.{TooMany}
use Rattle.base_poly.proofs.Longer.{some_tuple, longer, joined, part_within, part_done, low_head, behind, led_behind, all_led, tuples_step}
use Rattle.base_poly.proofs.list.+of_types.Goals as goal

pub append_by_first_type-returns-in_err-heads-clause-many : goal.append_by_first_type-returns-in_err-heads-clause-many
append_by_first_type-returns-in_err-heads-clause-many t c =
    let all = longer (tuples_up_to (context_of c.args.rest.now)) ◌∷◌ c.args.d (some_tuple (context_of c.args.rest.now)) (indices_up_to (ty_of c.args.first.now) c.args.d) in
    grind (arith, common_steps, all)

pub append_by_first_type-append_by_first_index-requires : goal.append_by_first_type-append_by_first_index-requires
append_by_first_type-append_by_first_index-requires t c = (search rules, (c.loop-head.invariant.few, low_head (ty_of c.args.first.now) c.args.d _ _ _ c.loop-head.invariant.heads c.loop-head-test.true c.head-item.is))

pub append_by_first_type-returns-in_err-append_by_first_index-clause-many : goal.append_by_first_type-returns-in_err-append_by_first_index-clause-many
append_by_first_type-returns-in_err-append_by_first_index-clause-many t c =
    let part = part_within (tuples_up_to (context_of c.args.rest.now)) (behind (plains_of c.args.before.now.items)) c.args.d _ _ _ _ _ c.loop-head-test.true c.head-item.is c.loop-head.invariant.done in
    let rests = tuples_up_to (context_of c.args.rest.now) in
    let before = plains_of c.args.before.now.items in
    let heads = plains_of c.deref-head-items.result.now in
    let whole = length-append c.args.found.now.items (joined rests (behind before) c.args.d heads) in
    let led = ap length (led_behind before rests c.args.d heads) ∙ length-map (tuples_led rests c.args.d heads) (λ t. before ++ t) ∙ ap (λ hs. length (tuples_led rests c.args.d hs)) c.loop-head.invariant.heads in
    grind (arith, common_steps, part, whole, led)

pub append_by_first_type-loop-head-preserved : goal.append_by_first_type-loop-head-preserved
append_by_first_type-loop-head-preserved t c = record {
  heads = c.loop-head.invariant.heads;
  done = part_done (tuples_up_to (context_of c.args.rest.now)) (behind (plains_of c.args.before.now.items)) c.args.d _ _ _ _ _ _ c.loop-head-test.true c.head-item.is
      (c.in_ok-append_by_first_index.ensures.all ∙ (λ n. c.loop-head.found.items ++ map (behind (plains_of (c.loop-head.invariant.kept n)) (index_of c.head-item.result)) (tuples_up_to (context_of c.args.rest.now) (c.args.d - deg (index_of c.head-item.result)))))
      c.loop-head.invariant.done;
  kept = c.in_ok-append_by_first_index.ensures.kept ∙ c.loop-head.invariant.kept;
  few = c.in_ok-append_by_first_index.ensures.few;
}

pub append_by_first_type-returns-clause-all : goal.append_by_first_type-returns-clause-all
append_by_first_type-returns-clause-all t c =
    all_led (plains_of c.args.before.now.items) (tuples_up_to (context_of c.args.rest.now)) c.args.d _ _ _ _ _ c.loop-head-test.false c.loop-head.invariant.heads c.loop-head.invariant.done

pub append_tuples-returns-in-len1-up-clause-all : goal.append_tuples-returns-in-len1-up-clause-all
append_tuples-returns-in-len1-up-clause-all t c =
    let step = tuples_step c.args.types.now c.first-item.result c.args.d c.in-len1-up.len_at_least c.first-item.is in
    subst (λ ts. OnOk c.append_by_first_type.result (c.append_by_first_type.new.found.items ≡ c.args.found.now.items ++ map (λ t. plains_of c.args.before.now.items ++ t) ts)) (sym step) c.append_by_first_type.ensures.all

pub append_tuples-returns-in-len1-up-clause-many : goal.append_tuples-returns-in-len1-up-clause-many
append_tuples-returns-in-len1-up-clause-many t c =
    let step = tuples_step c.args.types.now c.first-item.result c.args.d c.in-len1-up.len_at_least c.first-item.is in
    subst (λ ts. IsErrOf c.append_by_first_type.result TooMany → c.args.most < length c.args.found.now.items + length ts) (sym step) c.append_by_first_type.ensures.many
