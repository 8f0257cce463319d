use Rattle.std.proofs.Common.{◌≡◌, ap, sym, subst, ◌∙◌, ℕ, Err, [], ◌<◌, length, slice_set}
use Rattle.simplex_rows.specs.Entries.{Entries}
use Rattle.simplex.specs.declared.fault.Fault.{Fault}
use Rattle.simplex.specs.Standing.{AmongSwept, RowLeaves, PivotLeaves}
use Rattle.simplex.proofs.Opens.{of_error}
use Rattle.simplex.proofs.Sweeping.{inside_still, pivot_made, lead_left, row_left, gains_left, length-slice_set}
use Rattle.simplex.proofs.pivot.pivot.Goals as goal

pub sweep_rows-requires-clause-inside : goal.sweep_rows-requires-clause-inside
sweep_rows-requires-clause-inside c i a =
    let hole : c.replace-above.new.dest ≡ [] = c.replace-above.ensures.after ∙ c.new.ensures in
    subst (λ (es : Entries). i < length (slice_set c.args.rows.now c.args.place.row es)) (sym hole) (inside_still c.args.place.row c.args.place.column c.args.rows.now c.index-rows-row.result c.requires.inside c.args.touching.now c.requires.touching i a)

pub returns-in_err-sweep_rows-clause-leaves : goal.returns-in_err-sweep_rows-clause-leaves
returns-in_err-sweep_rows-clause-leaves c i k e =
    let hole : c.replace-above.new.dest ≡ [] = c.replace-above.ensures.after ∙ c.new.ensures in
    let same : c.in_err-sweep_rows.field-0.0 ≡ Fault.Leaves i k = of_error _ _ _ c.from_residual.ensures.1 e in
    row_left c.args.place.row c.args.place.column c.args.rows.now c.index-rows-row.result c.requires.inside c.args.touching.now c.requires.touching c.args.gains.now c.in-Ok.lead i k (rw c.replace-above.ensures.value at c.in-Ok.ensures.each)
    (subst (λ (es : Entries). RowLeaves c.args.place.column c.in-Ok.lead (slice_set c.args.rows.now c.args.place.row es) i k) hole (c.in_err-sweep_rows.ensures.leaves i k (ap Err same)))

pub returns-in-Err-clause-leaves : goal.returns-in-Err-clause-leaves
returns-in-Err-clause-leaves c i k e =
    let same : c.in_row.result ≡ Fault.Leaves i k = cc in
    let f = c.in_row.ensures i k same in
    subst (λ (j : ℕ). PivotLeaves c.args.place.row c.args.place.column c.args.rows.now c.args.gains.now j k) (sym f.0)
    (lead_left c.args.place.row c.args.place.column c.args.rows.now c.index-rows-row.result c.requires.inside c.args.touching.now c.requires.touching c.args.gains.now k (rw c.replace-above.ensures.value at c.in-Err.ensures.leaves k (ap Err f.1)))

pub returns-in-Err-sweep-clause-leaves : goal.returns-in-Err-sweep-clause-leaves
returns-in-Err-sweep-clause-leaves c i k e =
    let same : c.in_row-in-Err-sweep.result ≡ Fault.Leaves i k = cc in
    let f = c.in_row-in-Err-sweep.ensures i k same in
    gains_left c.args.place.row c.args.place.column c.args.rows.now c.index-rows-row.result c.requires.inside c.args.touching.now c.requires.touching c.args.gains.now c.in-Ok.lead i k (rw c.replace-above.ensures.value at c.in-Ok.ensures.each)
    (f.0 ∙ c.in_ok-sweep_rows.ensures.swept.count ∙ length-slice_set c.args.rows.now c.args.place.row c.replace-above.new.dest) (c.in-Err-sweep.ensures.leaves k (ap Err f.1))

pub returns-clause-pivoted : goal.returns-clause-pivoted
returns-clause-pivoted c =
    let hole : c.replace-above.new.dest ≡ [] = c.replace-above.ensures.after ∙ c.new.ensures in
    pivot_made c.args.place.row c.args.place.column c.args.rows.now c.index-rows-row.result c.requires.inside c.args.touching.now c.requires.touching c.args.gains.now c.in-Ok.lead c.sweep_rows.new.rows c.sweep.new.self (rw c.replace-above.ensures.value at c.in-Ok.ensures.each)
    (subst (λ (es : Entries). AmongSwept c.args.touching.now c.args.place.column c.in-Ok.lead (slice_set c.args.rows.now c.args.place.row es) c.sweep_rows.new.rows) hole c.in_ok-sweep_rows.ensures.swept) c.in_default.ensures.swept
