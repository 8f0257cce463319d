use Rattle.std.proofs.Common.{◌≡◌, ◌∷◌, map, length, sym, ap, ◌∙◌, arith}
use Rattle.std.proofs.lemmas.Grind.{common_steps}
use Rattle.std.proofs.lemmas.List.{length-map}
use Rattle.std.proofs.lemmas.Result.{IfOk-weaker}
use Rattle.raml_syntax.specs.Read.{ty_of}
use Rattle.base_poly.specs.Plain.{deg, degrees}
use Rattle.base_poly.specs.Indices.{tuples_led, indices_up_to, tuples_up_to}
use Rattle.base_poly.specs.Read.{context_of}
use Rattle.base_poly.specs.Sizes.{all_sums}
use Rattle.base_poly.proofs.Longer.{some_tuple, longer}
use Rattle.base_poly.proofs.Sized.{tuples_sized, as_long_as_rests}
use Rattle.base_poly.proofs.Lengths.{rests_sized, alone_sized, same_length}
use Rattle.base_poly.proofs.sizes.+of_types.Goals as goal

pub by_first_type-returns-then-has_one_index-clause-all : goal.by_first_type-returns-then-has_one_index-clause-all
by_first_type-returns-then-has_one_index-clause-all t c =
    IfOk-weaker c.of_types.result _ (λ found. found.items ≡ map degrees (tuples_led (tuples_up_to (context_of c.args.rest.now)) c.args.d (indices_up_to (ty_of c.args.first.now) c.args.d)))
    (λ found h. h ∙ sym (rests_sized (ty_of c.args.first.now) (context_of c.args.rest.now) c.args.d (c.has_one_index.ensures c.if-has_one_index.true))) c.of_types.ensures.all

pub before_others-returns-in-empty-clause-all : goal.before_others-returns-in-empty-clause-all
before_others-returns-in-empty-clause-all t c =
    IfOk-weaker c.of_type.result _ (λ found. found.items ≡ map degrees (tuples_led (tuples_up_to (context_of c.args.rest.now)) c.args.d (indices_up_to (ty_of c.args.first.now) c.args.d)))
    (λ found h. h ∙ sym (alone_sized c.args.rest.now c.args.d (indices_up_to (ty_of c.args.first.now) c.args.d) (omega (arith, c.in-empty.len_below)))) c.of_type.ensures.all

pub before_others-returns-in-empty-clause-many : goal.before_others-returns-in-empty-clause-many
before_others-returns-in-empty-clause-many t c = λ e.
    let firsts = indices_up_to (ty_of c.args.first.now) c.args.d in
    let same = alone_sized c.args.rest.now c.args.d firsts (omega (arith, c.in-empty.len_below)) in
    let long = same_length degrees deg (tuples_led (tuples_up_to (context_of c.args.rest.now)) c.args.d firsts) firsts same in
    let more = c.of_type.ensures.many e in omega (arith, more, long)

pub with_others-returns-in_err-firsts-clause-many : goal.with_others-returns-in_err-firsts-clause-many
with_others-returns-in_err-firsts-clause-many t c =
    let all = longer (tuples_up_to (context_of c.args.rest.now)) ◌∷◌ c.args.d (some_tuple (context_of c.args.rest.now)) (indices_up_to (ty_of c.args.first.now) c.args.d) in
    grind (arith, common_steps, all)

pub with_others-returns-in_err-rests-clause-many : goal.with_others-returns-in_err-rests-clause-many
with_others-returns-in_err-rests-clause-many t c =
    let all = as_long_as_rests (tuples_up_to (context_of c.args.rest.now)) ◌∷◌ c.args.d (ty_of c.args.first.now) in
    grind (arith, common_steps, all)

pub with_others-returns-clause-all : goal.with_others-returns-clause-all
with_others-returns-clause-all t c =
    IfOk-weaker c.sums.result _ (λ found. found.items ≡ map degrees (tuples_led (tuples_up_to (context_of c.args.rest.now)) c.args.d (indices_up_to (ty_of c.args.first.now) c.args.d)))
    (λ found h. h ∙ (λ n. all_sums 0 c.args.d ((c.deref.ensures.value ∙ c.in_ok-firsts.ensures.all) n) ((c.deref-2.ensures.value ∙ c.in_ok-rests.ensures.all) n))
    ∙ sym (tuples_sized (ty_of c.args.first.now) (context_of c.args.rest.now) c.args.d)) c.sums.ensures.all

pub with_others-returns-clause-many : goal.with_others-returns-clause-many
with_others-returns-clause-many t c =
    let same = (λ n. length (all_sums 0 c.args.d ((c.deref.ensures.value ∙ c.in_ok-firsts.ensures.all) n) ((c.deref-2.ensures.value ∙ c.in_ok-rests.ensures.all) n)))
    ∙ ap length (sym (tuples_sized (ty_of c.args.first.now) (context_of c.args.rest.now) c.args.d)) in
    let long = length-map (tuples_led (tuples_up_to (context_of c.args.rest.now)) c.args.d (indices_up_to (ty_of c.args.first.now) c.args.d)) degrees in
    λ e. let more = c.sums.ensures.many e in omega (arith, same, long, more)
