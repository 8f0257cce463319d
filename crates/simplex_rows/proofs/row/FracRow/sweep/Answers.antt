use Rattle.std.proofs.Common.{◌≡◌, ap, Err, Ok}
use Rattle.simplex_rows.specs.declared.fault.RowFault.TheVariants.{Leaves}
use Rattle.simplex_rows.proofs.Pointwise.{of_error}
use Rattle.simplex_rows.proofs.Likewise.{swept_as, leaves_as, same_entries}
use Rattle.simplex_rows.proofs.row.FracRow.sweep.Goals as goal

pub returns-in_err-sweep_fractions-clause-leaves : goal.returns-in_err-sweep_fractions-clause-leaves
returns-in_err-sweep_fractions-clause-leaves c k e =
    let kept = c.in_ok-sweep_short.ensures.kept (ap Ok c.if-branch.false) in
    let same : c.in_err-sweep_fractions.field-0.0 ≡ Leaves k = of_error _ _ _ c.from_residual-in_err-sweep_fractions.ensures.1 e in
    leaves_as c.args.column k c.args.lead.now c.args.lead.now c.args.self.now c.sweep_short.new.self (same_entries c.args.lead.now) kept (c.in_err-sweep_fractions.ensures.leaves k (ap Err same))

pub returns-clause-swept : goal.returns-clause-swept
returns-clause-swept c =
    let kept = c.in_ok-sweep_short.ensures.kept (ap Ok c.if-branch.false) in
    swept_as c.args.column c.args.lead.now c.args.lead.now c.args.self.now c.sweep_short.new.self c.sweep_fractions.new.self c.narrow.new.self (same_entries c.args.lead.now) kept c.in_ok-narrow.ensures c.in_ok-sweep_fractions.ensures.swept
