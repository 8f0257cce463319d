use Rattle.cost_free.proofs.Steps.{noted, with_noted, refuted_noted, unchanged, on_error}
use Rattle.cost_free.proofs.walk.note.Goals as goal

pub returns-in_ok-insert-in-Free-clause-known : goal.returns-in_ok-insert-in-Free-clause-known
returns-in_ok-insert-in-Free-clause-known c =
    noted c.args.solved.now.keys c.insert.new.self.keys c.in-Free.fun c.in-Free.target c.in-Free.budget c.args.entry.now c.in-Free.is c.in-Solved.is c.in_ok-insert-in-Free.ensures.updates.0

pub returns-in-With-clause-known : goal.returns-in-With-clause-known
returns-in-With-clause-known c = with_noted c.args.solved.now.keys c.in-With.field-0 c.args.entry.now c.in-With.is c.in-Solved.is

pub returns-in-Refuted : goal.returns-in-Refuted
returns-in-Refuted c = record { known = refuted_noted c.args.solved.now.keys c.args.entry.now c.in-Refuted.is; kept = tt }

pub returns-in_err-insert-in-Free-clause-kept : goal.returns-in_err-insert-in-Free-clause-kept
returns-in_err-insert-in-Free-clause-kept c =
    on_error c.from_residual.result _ (unchanged c.args.solved.now.keys c.insert.new.self.keys c.in_err-insert-in-Free.ensures.err)
