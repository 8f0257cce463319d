use Rattle.std.proofs.Common.{◌∙◌, Err, inl, inr, true, false, ◌∷◌, [], ◌++◌, ap, sym, subst, arith}
use Rattle.index_shift.specs.Contexts.{other_items}
use Rattle.index_shift.proofs.Shorter.{back_few}
use Rattle.tuple_ranks.specs.Columns.{table_by}
use Rattle.tuple_ranks.specs.Slots.{half_items}
use Rattle.tuple_ranks.specs.Spots.{IsLarge, AreSmall}
use Rattle.tuple_ranks.proofs.Made.{of_fault}
use Rattle.tuple_ranks.proofs.Rows.{half_large, half_sized, both_sized, rest_sized, others_are}
use Rattle.tuple_ranks.proofs.spots.Contexts.new.Goals as goal

pub returns-in_err-whole-clause-many : goal.returns-in_err-whole-clause-many
returns-in_err-whole-clause-many c = λ e As A f g. inl (c.in_err-whole.ensures.many (ap Err (of_fault _ _ c.from_residual.ensures.1 e)) As f)

pub returns-in_err-marked-clause-many : goal.returns-in_err-marked-clause-many
returns-in_err-marked-clause-many c = λ e As A f g.
    let marks = c.args.marks.now in
    inl (half_large true marks As c.args.d (c.in_err-marked.ensures.many (ap Err (of_fault _ _ c.from_residual-in_err-marked.ensures.1 e)) (half_items true marks 0 As) (half_sized true marks As c.args.d _ (sym f))))

pub returns-in_err-others-clause-many : goal.returns-in_err-others-clause-many
returns-in_err-others-clause-many c = λ e As A f g.
    let marks = c.args.marks.now in
    inl (half_large false marks As c.args.d (c.in_err-others.ensures.many (ap Err (of_fault _ _ c.from_residual-in_err-others.ensures.1 e)) (half_items false marks 0 As) (half_sized false marks As c.args.d _ (sym f))))

pub returns-in_err-bound-clause-many : goal.returns-in_err-bound-clause-many
returns-in_err-bound-clause-many c = λ e As A f g.
    let large = c.in_err-bound.ensures.many (ap Err (of_fault _ _ c.from_residual-in_err-bound.ensures.1 e)) (A ∷ []) g in
    let more = back_few (other_items c.args.marks.now As) (A ∷ []) c.args.d in inr (omega (arith, large, more))

pub returns-in_err-rest-clause-many : goal.returns-in_err-rest-clause-many
returns-in_err-rest-clause-many c = λ e As A f g.
    let marks = c.args.marks.now in
    let Os = half_items false marks 0 As in
    let sized = both_sized Os (A ∷ []) c.args.d _ _ (sym (half_sized false marks As c.args.d _ (sym f))) (sym g) ∙ sym (rest_sized _ _ c.args.last.now c.args.d c.in_ok-others.ensures.ranks) in
    inr (subst (λ Bs. IsLarge (Bs ++ A ∷ []) c.args.d) (others_are marks As) (c.in_err-rest.ensures.many (ap Err (of_fault _ _ c.from_residual-in_err-rest.ensures.1 e)) (Os ++ A ∷ []) sized))

pub returns-clause-rest : goal.returns-clause-rest
returns-clause-rest c = c.in_ok-rest.ensures.is ∙ ap (λ pss. table_by pss c.args.d) (rest_sized _ _ c.args.last.now c.args.d c.in_ok-others.ensures.ranks)

pub returns-clause-few : goal.returns-clause-few
returns-clause-few c = (c.in_ok-marked.ensures.few, c.in_ok-others.ensures.few, subst (λ pss. AreSmall pss c.args.d) (rest_sized _ _ c.args.last.now c.args.d c.in_ok-others.ensures.ranks) c.in_ok-rest.ensures.few)
