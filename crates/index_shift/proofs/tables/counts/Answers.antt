use Rattle.std.proofs.Common.{◌∙◌, ◌+◌, Err, refl, ap, map, slice_index_or, arith}
use Rattle.base_poly.specs.Base.{total}
use Rattle.index_shift.specs.Read.{items_of}
use Rattle.index_shift.specs.Tables.{fits, sums, listed, lows}
use Rattle.index_shift.proofs.Faults.{of_fault}
use Rattle.index_shift.proofs.Steps.{are_tables}
use Rattle.index_shift.proofs.Tabled.{past_after, past_inner, past_lows, few_lows}
use Rattle.index_shift.proofs.tables.counts.Goals as goal

pub returns-in_err-after-clause-many : goal.returns-in_err-after-clause-many
returns-in_err-after-clause-many c = λ e As Ts Bs g.
    past_after As Ts Bs c.args.d c.args.most _ _ _ g (c.in_err-after.ensures.many (ap Err (of_fault _ _ c.from_residual.ensures.1 e)))

pub returns-in_err-inner-clause-many : goal.returns-in_err-inner-clause-many
returns-in_err-inner-clause-many c = λ e As Ts Bs g.
    let past = c.in_err-inner.ensures.many (ap Err (of_fault _ _ c.from_residual-in_err-inner.ensures.1 e)) in
    let same = ap (λ l. total (fits (λ r. slice_index_or l r 0) past.0) c.args.new.now) c.as_slice.ensures in
    let more = past.2 in
    past_inner As Ts Bs c.args.d c.args.most _ _ _ g c.in_ok-after.after.items c.in_ok-after.ensures.all (past.0, past.1, omega (arith, same, more))

pub returns-in_err-first-clause-many : goal.returns-in_err-first-clause-many
returns-in_err-first-clause-many c = λ e As Ts Bs g.
    let past = c.in_err-first.ensures.many (ap Err (of_fault _ _ c.from_residual-in_err-first.ensures.1 e)) in
    let same = ap (λ l. lows (λ r. slice_index_or l r 0) c.args.before.now (1 + past.0)) c.as_slice-2.ensures in
    let totals = c.in_ok-inner.ensures.totals ∙ ap (λ l. listed (λ g. total (fits (λ r. slice_index_or l r 0) g) c.args.new.now) 0 (1 + c.args.d)) c.as_slice.ensures in
    let more = past.2 in
    past_lows As Ts Bs c.args.d c.args.most _ _ _ g c.in_ok-after.after.items c.in_ok-after.ensures.all c.in_ok-inner.inner.1.items totals (past.0, past.1, omega (arith, same, more))

pub returns-clause-tables : goal.returns-clause-tables
returns-clause-tables c =
    are_tables c.args.before.now c.args.new.now c.args.after.now c.args.d _ c.in_ok-after.after.items c.in_ok-inner.inner.1.items
    (map items_of c.in_ok-inner.inner.0.items) (map items_of c.in_ok-first.first.items) refl (λ r. refl) (λ g m. refl) (λ h k. refl) c.in_ok-after.ensures.all
    (c.in_ok-inner.ensures.table ∙ ap (λ l. listed (λ g. sums (fits (λ r. slice_index_or l r 0) g) 0 c.args.new.now) 0 (1 + c.args.d)) c.as_slice.ensures)
    (c.in_ok-inner.ensures.totals ∙ ap (λ l. listed (λ g. total (fits (λ r. slice_index_or l r 0) g) c.args.new.now) 0 (1 + c.args.d)) c.as_slice.ensures)
    (c.in_ok-first.ensures.table
    ∙ ap (λ l. listed (λ h. sums (fits (λ r. slice_index_or l r 0) h) (lows (λ r. slice_index_or l r 0) c.args.before.now h) c.args.before.now) 0 (1 + c.args.d)) c.as_slice-2.ensures)

pub returns-clause-few : goal.returns-clause-few
returns-clause-few c = λ As Ts Bs g.
    let same = ap (λ l. lows (λ r. slice_index_or l r 0) c.args.before.now (1 + c.args.d)) c.as_slice-2.ensures in
    let totals = c.in_ok-inner.ensures.totals ∙ ap (λ l. listed (λ g. total (fits (λ r. slice_index_or l r 0) g) c.args.new.now) 0 (1 + c.args.d)) c.as_slice.ensures in
    let few = c.in_ok-first.ensures.few in
    few_lows As Ts Bs c.args.d c.args.most _ _ _ g c.in_ok-after.after.items c.in_ok-after.ensures.all c.in_ok-inner.inner.1.items totals (omega (arith, same, few))
