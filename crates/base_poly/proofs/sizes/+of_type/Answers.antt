use Rattle.std.proofs.Common.{◌≡◌, ◌<◌, ◌∷◌, map, length, IfOk, IsErrOf, sym, ap, ◌∙◌, subst, arith}
use Rattle.std.proofs.lemmas.Grind.{common_steps}
use Rattle.std.proofs.lemmas.List.{length-map}
use Rattle.std.proofs.lemmas.Result.{IfOk-weaker}
use Rattle.raml_syntax.specs.Read.{ty_of}
use Rattle.base_poly.specs.Plain.{Pair, many, deg}
use Rattle.base_poly.specs.Indices.{pairs_led, lists, options, indices_up_to}
use Rattle.base_poly.specs.Sizes.{sums_behind, all_sums, list_sums}
use Rattle.base_poly.specs.declared.fault.IndexFault.TheVariants.{TooMany}
use Rattle.base_poly.proofs.Height.{pair_of_parts}
use Rattle.base_poly.proofs.Longer.{some_index, longer}
use Rattle.base_poly.proofs.Sized.{pairs_sized, list_indices_sized, options_sized, no_fewer_lists, entries_fewer, as_long_as_rests}
use Rattle.base_poly.proofs.Lengths.{lengths_sized, as_many_lengths}
use Rattle.base_poly.proofs.sizes.+of_type.Goals as goal

pub of_type-returns-in-Pair-clause-all : goal.of_type-returns-in-Pair-clause-all
of_type-returns-in-Pair-clause-all t c =
    subst (λ T. IfOk c.of_pairs.result (λ found. found.items ≡ map deg (indices_up_to T c.args.d)))
    (pair_of_parts _ _ _ _ _ c.in-Pair.is c.deref.ensures c.deref-in-Pair.ensures) c.of_pairs.ensures.all

pub of_type-returns-in-Pair-clause-many : goal.of_type-returns-in-Pair-clause-many
of_type-returns-in-Pair-clause-many t c =
    subst (λ T. IsErrOf c.of_pairs.result TooMany → c.args.most < length (indices_up_to T c.args.d))
    (pair_of_parts _ _ _ _ _ c.in-Pair.is c.deref.ensures c.deref-in-Pair.ensures) c.of_pairs.ensures.many

pub of_pairs-returns-in_err-firsts-clause-many : goal.of_pairs-returns-in_err-firsts-clause-many
of_pairs-returns-in_err-firsts-clause-many t c =
    let all = longer (indices_up_to (ty_of c.args.second.now)) Pair c.args.d (some_index (ty_of c.args.second.now)) (indices_up_to (ty_of c.args.first.now) c.args.d) in
    grind (arith, common_steps, all)

pub of_pairs-returns-in_err-seconds-clause-many : goal.of_pairs-returns-in_err-seconds-clause-many
of_pairs-returns-in_err-seconds-clause-many t c =
    let all = as_long_as_rests (indices_up_to (ty_of c.args.second.now)) Pair c.args.d (ty_of c.args.first.now) in
    grind (arith, common_steps, all)

pub of_pairs-returns-clause-all : goal.of_pairs-returns-clause-all
of_pairs-returns-clause-all t c =
    IfOk-weaker c.sums.result _ (λ found. found.items ≡ map deg (pairs_led (indices_up_to (ty_of c.args.second.now)) c.args.d (indices_up_to (ty_of c.args.first.now) c.args.d)))
    (λ found h. h ∙ (λ n. all_sums 0 c.args.d ((c.deref.ensures.value ∙ c.in_ok-firsts.ensures.all) n) ((c.deref-2.ensures.value ∙ c.in_ok-seconds.ensures.all) n))
    ∙ sym (pairs_sized (ty_of c.args.first.now) (ty_of c.args.second.now) c.args.d)) c.sums.ensures.all

pub of_pairs-returns-clause-many : goal.of_pairs-returns-clause-many
of_pairs-returns-clause-many t c =
    let same = (λ n. length (all_sums 0 c.args.d ((c.deref.ensures.value ∙ c.in_ok-firsts.ensures.all) n) ((c.deref-2.ensures.value ∙ c.in_ok-seconds.ensures.all) n)))
    ∙ ap length (sym (pairs_sized (ty_of c.args.first.now) (ty_of c.args.second.now) c.args.d)) in
    let long = length-map (pairs_led (indices_up_to (ty_of c.args.second.now)) c.args.d (indices_up_to (ty_of c.args.first.now) c.args.d)) deg in
    λ e. let more = c.sums.ensures.many e in omega (arith, same, long, more)

pub of_lists-returns-then-has_one_index-clause-all : goal.of_lists-returns-then-has_one_index-clause-all
of_lists-returns-then-has_one_index-clause-all t c =
    IfOk-weaker c.lengths.result _ (λ found. found.items ≡ map deg (map many (lists (indices_up_to (ty_of c.args.element.now)) c.args.d c.args.d)))
    (λ found h. h ∙ sym (lengths_sized (ty_of c.args.element.now) c.args.d (c.has_one_index.ensures c.if-has_one_index.true))) c.lengths.ensures.all

pub of_lists-returns-then-has_one_index-clause-many : goal.of_lists-returns-then-has_one_index-clause-many
of_lists-returns-then-has_one_index-clause-many t c = λ e.
    let more = c.lengths.ensures.many e in
    let long = as_many_lengths (ty_of c.args.element.now) c.args.d (c.has_one_index.ensures c.if-has_one_index.true) in omega (arith, more, long)

pub of_entries-returns-in_err-entries-clause-many : goal.of_entries-returns-in_err-entries-clause-many
of_entries-returns-in_err-entries-clause-many t c =
    let all = entries_fewer (ty_of c.args.element.now) c.args.d (omega (arith, c.if-d-eq0.false)) in
    grind (arith, common_steps, all)

pub of_entries-returns-clause-all : goal.of_entries-returns-clause-all
of_entries-returns-clause-all t c =
    IfOk-weaker c.list_sums.result _ (λ found. found.items ≡ map deg (map many (lists (indices_up_to (ty_of c.args.element.now)) c.args.d c.args.d)))
    (λ found h. h ∙ ap (λ l. list_sums l c.args.d) (c.deref.ensures.value ∙ c.in_ok-entries.ensures.all)
    ∙ sym (list_indices_sized (ty_of c.args.element.now) c.args.d (omega (arith, c.if-d-eq0.false)))) c.list_sums.ensures.all

pub of_entries-returns-clause-many : goal.of_entries-returns-clause-many
of_entries-returns-clause-many t c = λ e.
    let past = c.list_sums.ensures.many e in
    let same = ap (λ l. length (list_sums l past.0)) (c.deref.ensures.value ∙ c.in_ok-entries.ensures.all) in
    let all = no_fewer_lists (ty_of c.args.element.now) past.0 c.args.d past.1 (omega (arith, c.if-d-eq0.false)) in
    let most = past.2 in omega (arith, same, all, most)

pub of_options-returns-clause-all : goal.of_options-returns-clause-all
of_options-returns-clause-all t c =
    IfOk-weaker c.option_sums.result _ (λ found. found.items ≡ map deg (options (indices_up_to (ty_of c.args.content.now)) c.args.d))
    (λ found h. h ∙ ap (λ l. 0 ∷ sums_behind 1 c.args.d l) (c.deref.ensures.value ∙ c.in_ok-entries.ensures.all)
    ∙ sym (options_sized (ty_of c.args.content.now) c.args.d (omega (arith, c.if-d-eq0.false)))) c.option_sums.ensures.all

pub of_options-returns-clause-many : goal.of_options-returns-clause-many
of_options-returns-clause-many t c =
    let same = ap (λ l. length (0 ∷ sums_behind 1 c.args.d l)) (c.deref.ensures.value ∙ c.in_ok-entries.ensures.all)
    ∙ ap length (sym (options_sized (ty_of c.args.content.now) c.args.d (omega (arith, c.if-d-eq0.false)))) in
    let long = length-map (options (indices_up_to (ty_of c.args.content.now)) c.args.d) deg in
    λ e. let more = c.option_sums.ensures.many e in omega (arith, same, long, more)
