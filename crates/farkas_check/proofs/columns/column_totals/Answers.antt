use Rattle.std.proofs.Common.{◌∙◌, sym, subst, ℕ, []}
use Rattle.farkas_check.specs.Sides.{AreTotals}
use Rattle.farkas_check.proofs.Walking.{written_back}
use Rattle.farkas_check.proofs.columns.column_totals.Goals as goal

pub returns : goal.returns
returns c =
    let n : ℕ = c.args.system.now.unknowns in
    let old : AreTotals n (λ _. []) c.in_ok-totals.totals.items = subst (λ (m : ℕ). AreTotals m (λ _. []) c.in_ok-totals.totals.items) c.unknowns.ensures c.in_ok-totals.ensures in
    let added = rw (c.deref_mut.ensures.value, c.rows.ensures.all) at c.add_rows.ensures in
    let new = added n (λ _. []) old in
    rw (written_back c.in_ok-totals.totals.len c.in_ok-totals.totals.items c.add_rows.new.totals c.in_ok-totals.totals.ok.0 (new.count ∙ sym old.count)) new
