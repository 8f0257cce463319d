use Rattle.std.proofs.Common.{◌≡◌, ap, Err}
use Rattle.simplex_rows.specs.Forms.{row_of}
use Rattle.simplex_rows.specs.ShortRows.{fractions_of}
use Rattle.simplex_rows.specs.declared.fault.RowFault.TheVariants.{Leaves}
use Rattle.simplex_rows.proofs.Pointwise.{of_error}
use Rattle.simplex_rows.proofs.Likewise.{swept_as, leaves_as, same_entries}
use Rattle.simplex_rows.proofs.row.FracRow.sweep_wide.Goals as goal

pub returns-in_err-sweep-in-Short-clause-leaves : goal.returns-in_err-sweep-in-Short-clause-leaves
returns-in_err-sweep-in-Short-clause-leaves c k e =
    let same : c.in_err-sweep-in-Short.field-0.0 ≡ Leaves k = of_error _ _ _ c.from_residual-in_err-sweep-in-Short.ensures.1 e in
    let leaves = c.in_err-sweep-in-Short.ensures.leaves k (ap Err same) in
    rw (← c.self.view_is, c.in-Short.is) (leaves_as c.args.column k c.args.lead.now c.args.lead.now (fractions_of (row_of c.in-Short.row)) c.in_ok-wide-in-Short.wide (same_entries c.args.lead.now) c.in_ok-wide-in-Short.ensures.same leaves)

pub returns-in_ok-sweep-in-Short-clause-swept : goal.returns-in_ok-sweep-in-Short-clause-swept
returns-in_ok-sweep-in-Short-clause-swept c =
    rw (← c.self.view_is, c.in-Short.is) (swept_as c.args.column c.args.lead.now c.args.lead.now (fractions_of (row_of c.in-Short.row)) c.in_ok-wide-in-Short.wide c.sweep.new.self c.sweep.new.self (same_entries c.args.lead.now) c.in_ok-wide-in-Short.ensures.same (same_entries c.sweep.new.self) c.in_ok-sweep-in-Short.ensures.swept)

pub returns-in-Wide-clause-leaves : goal.returns-in-Wide-clause-leaves
returns-in-Wide-clause-leaves c k e = rw (← c.self.view_is, c.in-Wide.is) (c.sweep-in-Wide.ensures.leaves k e)
