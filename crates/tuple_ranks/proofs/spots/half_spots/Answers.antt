use Rattle.std.proofs.Common.{◌≡◌, ◌∙◌, Err, true, false, ap, length, map, sym}
use Rattle.std.proofs.lemmas.List.{length-map}
use Rattle.base_poly.specs.Read.{context_of}
use Rattle.tuple_ranks.specs.Columns.{table_by, place}
use Rattle.tuple_ranks.specs.Read.{items_of}
use Rattle.tuple_ranks.specs.Slots.{picked, half_items, half_slots}
use Rattle.tuple_ranks.proofs.Made.{of_fault}
use Rattle.tuple_ranks.proofs.Rows.{half_large, half_sized, rows_listed}
use Rattle.tuple_ranks.proofs.Picked.{halves_are}
use Rattle.tuple_ranks.proofs.spots.half_spots.Goals as goal

pub returns-in_err-tuples-clause-many : goal.returns-in_err-tuples-clause-many
returns-in_err-tuples-clause-many c = λ e.
    let sizes = ap (map items_of) c.deref.ensures.value ∙ c.in_ok-sizes.ensures.all in
    c.in_err-tuples.ensures.many (ap Err (of_fault _ _ c.from_residual-in_err-tuples.ensures.1 e)) (context_of c.args.types.now) (sym sizes)

pub returns-in_err-others-clause-many : goal.returns-in_err-others-clause-many
returns-in_err-others-clause-many c = λ e.
    let As = context_of c.args.types.now in
    let sizes = ap (map items_of) c.deref-2.ensures.value ∙ c.in_ok-sizes.ensures.all in
    half_large false c.args.marks.now As c.args.d
    (c.in_err-others.ensures.many (ap Err (of_fault _ _ c.from_residual-in_err-others.ensures.1 e)) (half_items false c.args.marks.now 0 As) (half_sized false c.args.marks.now As c.args.d _ sizes))

pub returns-in_err-marked-clause-many : goal.returns-in_err-marked-clause-many
returns-in_err-marked-clause-many c = λ e.
    let As = context_of c.args.types.now in
    let sizes = ap (map items_of) c.deref-3.ensures.value ∙ c.in_ok-sizes.ensures.all in
    half_large true c.args.marks.now As c.args.d
    (c.in_err-marked.ensures.many (ap Err (of_fault _ _ c.from_residual-in_err-marked.ensures.1 e)) (half_items true c.args.marks.now 0 As) (half_sized true c.args.marks.now As c.args.d _ sizes))

pub returns-clause-few : goal.returns-clause-few
returns-clause-few c =
    let sizes = ap (map items_of) c.deref.ensures.value ∙ c.in_ok-sizes.ensures.all in
    c.in_ok-tuples.ensures.few (context_of c.args.types.now) (sym sizes)

pub returns-clause-all : goal.returns-clause-all
returns-clause-all c =
    let d = c.args.d in
    let As = context_of c.args.types.now in
    let marks = c.args.marks.now in
    let all = c.in_ok-sizes.ensures.all in
    let others = half_sized false marks As d _ (ap (map items_of) c.deref-2.ensures.value ∙ all) in
    let marked = half_sized true marks As d _ (ap (map items_of) c.deref-3.ensures.value ∙ all) in
    let other_ranks = c.in_ok-others.ensures.ranks ∙ ap (λ pss. table_by pss d) (sym others) in
    let marked_ranks = c.in_ok-marked.ensures.ranks ∙ ap (λ pss. table_by pss d) (sym marked) in
    let other_slots = c.in_ok-others.ensures.slots ∙ ap (λ l. half_slots false marks 0 (length l)) c.deref-2.ensures.value in
    let marked_slots = c.in_ok-marked.ensures.slots ∙ ap (λ l. half_slots true marks 0 (length l)) c.deref-3.ensures.value in
    let numbers = c.in_ok-tuples.ensures.numbers ∙ rows_listed As d _ (ap (map items_of) c.deref.ensures.value ∙ all) in
    let wide : length c.in_ok-sizes.sizes.items ≡ length As = sym (length-map c.in_ok-sizes.sizes.items items_of) ∙ ap length all ∙ length-map As _ in
    c.in_ok-both_places.ensures
    ∙ (λ i. map (λ ns. (place (other_ranks i) (picked (other_slots i) ns), place (marked_ranks i) (picked (marked_slots i) ns))) (numbers i))
    ∙ halves_are marks As d (length c.in_ok-sizes.sizes.items) wide (c.in_ok-others.ensures.few (half_items false marks 0 As) others) (c.in_ok-marked.ensures.few (half_items true marks 0 As) marked)
