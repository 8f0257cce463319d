use Rattle.std.proofs.Common.{sym, ◌∙◌}
use Rattle.constraint_gen.proofs.Units.{unit_positions}
use Rattle.constraint_gen.proofs.task.positions_in.Goals as goal

pub returns-then-branch : goal.returns-then-branch
returns-then-branch c = c.in_ok-found.ensures ∙ unit_positions c.args.types.now c.args.d c.args.budget c.args.number (sym c.in_ok-is_unit.ensures ∙ c.if-branch.true)
