use Rattle.simplex_rows.specs.Forms.{row_of}
use Rattle.simplex_rows.specs.ShortRows.{fractions_of}
use Rattle.simplex_rows.proofs.Likewise.{swept_as, leaves_as, same_entries, on_ok}
use Rattle.simplex_rows.proofs.row.FracRow.sweep_fractions.Goals as goal

pub returns-in_ok-lead-in-Short-clause-swept : goal.returns-in_ok-lead-in-Short-clause-swept
returns-in_ok-lead-in-Short-clause-swept c =
    on_ok c.sweep_wide.result (λ w. rw (← c.lead.view_is, c.in-Short.is) (swept_as c.args.column (fractions_of (row_of c.in-Short.lead)) c.in_ok-lead-in-Short.lead c.args.self.now c.args.self.now c.sweep_wide.new.self c.sweep_wide.new.self c.in_ok-lead-in-Short.ensures.same (same_entries c.args.self.now) (same_entries c.sweep_wide.new.self) w)) c.sweep_wide.ensures.swept

pub returns-in_ok-lead-in-Short-clause-leaves : goal.returns-in_ok-lead-in-Short-clause-leaves
returns-in_ok-lead-in-Short-clause-leaves c k e =
    rw (← c.lead.view_is, c.in-Short.is) (leaves_as c.args.column k (fractions_of (row_of c.in-Short.lead)) c.in_ok-lead-in-Short.lead c.args.self.now c.args.self.now c.in_ok-lead-in-Short.ensures.same (same_entries c.args.self.now) (c.sweep_wide.ensures.leaves k e))

pub returns-in-Wide-clause-swept : goal.returns-in-Wide-clause-swept
returns-in-Wide-clause-swept c = on_ok c.sweep_wide-in-Wide.result (λ w. rw (← c.lead.view_is, c.in-Wide.is) w) c.sweep_wide-in-Wide.ensures.swept

pub returns-in-Wide-clause-leaves : goal.returns-in-Wide-clause-leaves
returns-in-Wide-clause-leaves c k e = rw (← c.lead.view_is, c.in-Wide.is) (c.sweep_wide-in-Wide.ensures.leaves k e)
