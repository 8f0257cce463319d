use Rattle.std.proofs.Common.{[], ◌∷◌, ◌++◌, ◌+◌, ◌∙◌, List, ap, refl, sym, subst, drop, string_bytes}
use Rattle.std.proofs.lemmas.List.{drop_all, drop_more, append_assoc, append-nil}
use Rattle.explain_profile.specs.Read.{case_of}
use Rattle.explain_profile.specs.Rows.{AreShown}
use Rattle.explain_profile.specs.declared.rows.Row.{Row}
use Rattle.explain_profile.proofs.Laid.{EndsRows, one_more}
use Rattle.explain_profile.proofs.table.push_rows.Goals as goal

pub loop-row-init : goal.loop-row-init
loop-row-init c = ([], (λ others are. are), sym (append-nil _))

pub loop-row-preserved : goal.loop-row-preserved
loop-row-preserved c =
    let rows = c.args.rows.now in
    let i = c.loop-row.row-index in
    let x = c.row-item.result in
    let so_far = c.loop-row.invariant in
    let row = c.in_ok-push_row.ensures in
    let first = drop_more rows i x c.loop-row-test.true ∙ ap (λ first. first ∷ drop (i + 1) rows) (sym c.row-item.is) in
    let ends = one_more (case_of c.args.case) x (drop i rows) (drop (i + 1) rows) rows so_far.0 row.0 first row.1 so_far.1 in
    (so_far.0 ++ row.0, ends, row.2 ∙ ap (λ text. text ++ row.0) so_far.2 ∙ append_assoc (string_bytes c.args.text.now) so_far.0 row.0)

pub returns : goal.returns
returns c =
    let case = case_of c.args.case in
    let rows = c.args.rows.now in
    let so_far = c.loop-row.invariant in
    let ends = subst (λ (rest : List Row). EndsRows case rest rows so_far.0) (drop_all c.loop-row.row-index rows c.loop-row-test.false) so_far.1 in
    (so_far.0, subst (AreShown case rows) (append-nil so_far.0) (ends [] refl), so_far.2)
