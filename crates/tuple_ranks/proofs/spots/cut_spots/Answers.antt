use Rattle.std.proofs.Common.{◌≡◌, ◌∙◌, Err, inr, true, false, ◌∷◌, [], ◌++◌, ap, length, map, sym, subst, arith}
use Rattle.std.proofs.lemmas.List.{length-map}
use Rattle.raml_syntax.specs.Read.{ty_of}
use Rattle.base_poly.specs.Read.{context_of}
use Rattle.index_shift.specs.Contexts.{marked_items, other_items}
use Rattle.index_shift.proofs.Shorter.{back_few}
use Rattle.tuple_ranks.specs.Columns.{table_by, place}
use Rattle.tuple_ranks.specs.Read.{items_of}
use Rattle.tuple_ranks.specs.Slots.{picked, half_items, behind_at}
use Rattle.tuple_ranks.specs.Spots.{half_spots, joined_spots, all_counts, IsSmall}
use Rattle.tuple_ranks.proofs.Made.{of_fault}
use Rattle.tuple_ranks.proofs.Behind.{joins_are}
use Rattle.tuple_ranks.proofs.Least.{least_halves, least_joined, least_counts, least_small}
use Rattle.tuple_ranks.proofs.Picked.{halves_are}
use Rattle.tuple_ranks.proofs.Rows.{half_sized, both_sized, rows_of, rows_listed, others_are, marked_are, counts_are}
use Rattle.tuple_ranks.proofs.spots.cut_spots.Goals as goal

pub returns-in_err-last-clause-many : goal.returns-in_err-last-clause-many
returns-in_err-last-clause-many c = λ e.
    let large = c.in_err-last.ensures.many (ap Err (of_fault _ _ c.from_residual-in_err-last.ensures.1 e)) in
    let more = back_few (other_items c.args.marks.now (context_of c.args.types.now)) (ty_of c.args.bound.now ∷ []) c.args.d in inr (omega (arith, large, more))

pub returns-in_err-contexts-clause-many : goal.returns-in_err-contexts-clause-many
returns-in_err-contexts-clause-many c = λ e.
    let sizes = ap (map items_of) c.deref.ensures.value ∙ c.in_ok-sizes.ensures.all in
    let last = c.deref-2.ensures.value ∙ c.in_ok-last.ensures.all in
    c.in_err-contexts.ensures.many (ap Err (of_fault _ _ c.from_residual-in_err-contexts.ensures.1 e)) (context_of c.args.types.now) (ty_of c.args.bound.now) (sym sizes) (ap (λ ps. ps ∷ []) (sym last))

pub returns-then-d-eq0-clause-halves : goal.returns-then-d-eq0-clause-halves
returns-then-d-eq0-clause-halves c =
    c.in_ok-least_cut.ensures.halves ∙ least_halves c.args.marks.now (context_of c.args.types.now) ∙ ap (half_spots c.args.marks.now (context_of c.args.types.now)) (sym c.if-d-eq0.true)

pub returns-then-d-eq0-clause-joined : goal.returns-then-d-eq0-clause-joined
returns-then-d-eq0-clause-joined c =
    c.in_ok-least_cut.ensures.joined ∙ least_joined (other_items c.args.marks.now (context_of c.args.types.now)) (ty_of c.args.bound.now ∷ []) ∙ ap (joined_spots (other_items c.args.marks.now (context_of c.args.types.now)) (ty_of c.args.bound.now ∷ [])) (sym c.if-d-eq0.true)

pub returns-then-d-eq0-clause-whole : goal.returns-then-d-eq0-clause-whole
returns-then-d-eq0-clause-whole c =
    c.in_ok-least_cut.ensures.whole ∙ least_counts (context_of c.args.types.now) ∙ ap (all_counts (context_of c.args.types.now)) (sym c.if-d-eq0.true)

pub returns-then-d-eq0-clause-marked : goal.returns-then-d-eq0-clause-marked
returns-then-d-eq0-clause-marked c =
    c.in_ok-least_cut.ensures.marked ∙ least_counts (marked_items c.args.marks.now (context_of c.args.types.now)) ∙ ap (all_counts (marked_items c.args.marks.now (context_of c.args.types.now))) (sym c.if-d-eq0.true)

pub returns-then-d-eq0-clause-others : goal.returns-then-d-eq0-clause-others
returns-then-d-eq0-clause-others c =
    c.in_ok-least_cut.ensures.others ∙ least_counts (other_items c.args.marks.now (context_of c.args.types.now)) ∙ ap (all_counts (other_items c.args.marks.now (context_of c.args.types.now))) (sym c.if-d-eq0.true)

pub returns-then-d-eq0-clause-bound : goal.returns-then-d-eq0-clause-bound
returns-then-d-eq0-clause-bound c =
    c.in_ok-least_cut.ensures.bound ∙ least_counts (ty_of c.args.bound.now ∷ []) ∙ ap (all_counts (ty_of c.args.bound.now ∷ [])) (sym c.if-d-eq0.true)

pub returns-then-d-eq0-clause-rest : goal.returns-then-d-eq0-clause-rest
returns-then-d-eq0-clause-rest c =
    c.in_ok-least_cut.ensures.rest ∙ least_counts ((other_items c.args.marks.now (context_of c.args.types.now)) ++ ty_of c.args.bound.now ∷ []) ∙ ap (all_counts ((other_items c.args.marks.now (context_of c.args.types.now)) ++ ty_of c.args.bound.now ∷ [])) (sym c.if-d-eq0.true)

pub returns-then-d-eq0-clause-few : goal.returns-then-d-eq0-clause-few
returns-then-d-eq0-clause-few c =
    let As = context_of c.args.types.now in (least_small As c.args.d c.if-d-eq0.true, least_small (other_items c.args.marks.now As ++ ty_of c.args.bound.now ∷ []) c.args.d c.if-d-eq0.true)

pub returns-clause-few : goal.returns-clause-few
returns-clause-few c =
    let d = c.args.d in
    let As = context_of c.args.types.now in
    let A = ty_of c.args.bound.now in
    let marks = c.args.marks.now in
    let made = c.in_ok-contexts.ensures in
    let sizes = ap (map items_of) c.deref.ensures.value ∙ c.in_ok-sizes.ensures.all in
    let last = ap (λ ps. ps ∷ []) (c.deref-2.ensures.value ∙ c.in_ok-last.ensures.all) in
    let Os = half_items false marks 0 As in
    let both = both_sized Os (A ∷ []) d _ _ (sym (half_sized false marks As d _ sizes)) last in
    (made.small As (sym sizes), subst (λ Bs. IsSmall (Bs ++ A ∷ []) d) (others_are marks As) (made.few.2 (Os ++ A ∷ []) both))

pub returns-clause-halves : goal.returns-clause-halves
returns-clause-halves c =
    let d = c.args.d in
    let As = context_of c.args.types.now in
    let marks = c.args.marks.now in
    let made = c.in_ok-contexts.ensures in
    let sizes = ap (map items_of) c.deref.ensures.value ∙ c.in_ok-sizes.ensures.all in
    let others = half_sized false marks As d _ sizes in
    let marked = half_sized true marks As d _ sizes in
    let other_ranks = made.others ∙ ap (λ pss. table_by pss d) (sym others) in
    let marked_ranks = made.marked ∙ ap (λ pss. table_by pss d) (sym marked) in
    let numbers = made.numbers ∙ rows_listed As d _ sizes in
    let wide : length c.deref.result.now ≡ length As = sym (length-map c.deref.result.now items_of) ∙ ap length sizes ∙ length-map As _ in
    c.in_ok-cut.ensures.halves
    ∙ (λ i. map (λ ns. (place (other_ranks i) (picked (made.other_slots i) ns), place (marked_ranks i) (picked (made.marked_slots i) ns))) (numbers i))
    ∙ halves_are marks As d (length c.deref.result.now) wide (made.few.1 (half_items false marks 0 As) others) (made.few.0 (half_items true marks 0 As) marked)

pub returns-clause-joined : goal.returns-clause-joined
returns-clause-joined c =
    let d = c.args.d in
    let As = context_of c.args.types.now in
    let A = ty_of c.args.bound.now in
    let marks = c.args.marks.now in
    let made = c.in_ok-contexts.ensures in
    let sizes = ap (map items_of) c.deref.ensures.value ∙ c.in_ok-sizes.ensures.all in
    let last = ap (λ ps. ps ∷ []) (c.deref-2.ensures.value ∙ c.in_ok-last.ensures.all) in
    let Os = half_items false marks 0 As in
    let others = half_sized false marks As d _ sizes in
    let both = both_sized Os (A ∷ []) d _ _ (sym others) last in
    let first = made.others ∙ ap (λ pss. table_by pss d) (sym others) in
    let second = made.bound ∙ ap (λ pss. table_by pss d) last in
    let whole = made.rest ∙ ap (λ pss. table_by pss d) (sym both) in
    let rows = rows_of _ _ d made.others ∙ rows_listed Os d _ (sym others) in
    let behind = made.bound_numbers ∙ rows_listed (A ∷ []) d _ last in
    c.in_ok-cut.ensures.joined
    ∙ (λ i. map (behind_at (first i) (second i) (whole i) (behind i)) (rows i))
    ∙ joins_are Os (A ∷ []) d (made.few.2 (Os ++ A ∷ []) both)
    ∙ ap (λ Bs. joined_spots Bs (A ∷ []) d) (others_are marks As)

pub returns-clause-whole : goal.returns-clause-whole
returns-clause-whole c =
    let sizes = ap (map items_of) c.deref.ensures.value ∙ c.in_ok-sizes.ensures.all in
    c.in_ok-cut.ensures.whole ∙ counts_are _ _ (context_of c.args.types.now) c.args.d c.in_ok-contexts.ensures.whole (sym sizes)

pub returns-clause-marked : goal.returns-clause-marked
returns-clause-marked c =
    let d = c.args.d in
    let As = context_of c.args.types.now in
    let marks = c.args.marks.now in
    let sizes = ap (map items_of) c.deref.ensures.value ∙ c.in_ok-sizes.ensures.all in
    c.in_ok-cut.ensures.marked ∙ counts_are _ _ (half_items true marks 0 As) d c.in_ok-contexts.ensures.marked (half_sized true marks As d _ sizes) ∙ ap (λ Bs. all_counts Bs d) (marked_are marks As)

pub returns-clause-others : goal.returns-clause-others
returns-clause-others c =
    let d = c.args.d in
    let As = context_of c.args.types.now in
    let marks = c.args.marks.now in
    let sizes = ap (map items_of) c.deref.ensures.value ∙ c.in_ok-sizes.ensures.all in
    c.in_ok-cut.ensures.others ∙ counts_are _ _ (half_items false marks 0 As) d c.in_ok-contexts.ensures.others (half_sized false marks As d _ sizes) ∙ ap (λ Bs. all_counts Bs d) (others_are marks As)

pub returns-clause-bound : goal.returns-clause-bound
returns-clause-bound c =
    let last = ap (λ ps. ps ∷ []) (c.deref-2.ensures.value ∙ c.in_ok-last.ensures.all) in
    c.in_ok-cut.ensures.bound ∙ counts_are _ _ (ty_of c.args.bound.now ∷ []) c.args.d c.in_ok-contexts.ensures.bound (sym last)

pub returns-clause-rest : goal.returns-clause-rest
returns-clause-rest c =
    let d = c.args.d in
    let As = context_of c.args.types.now in
    let A = ty_of c.args.bound.now in
    let marks = c.args.marks.now in
    let sizes = ap (map items_of) c.deref.ensures.value ∙ c.in_ok-sizes.ensures.all in
    let last = ap (λ ps. ps ∷ []) (c.deref-2.ensures.value ∙ c.in_ok-last.ensures.all) in
    let Os = half_items false marks 0 As in
    let both = both_sized Os (A ∷ []) d _ _ (sym (half_sized false marks As d _ sizes)) last in
    c.in_ok-cut.ensures.rest ∙ counts_are _ _ (Os ++ A ∷ []) d c.in_ok-contexts.ensures.rest both ∙ ap (λ Bs. all_counts (Bs ++ A ∷ []) d) (others_are marks As)
