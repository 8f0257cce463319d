use Rattle.std.proofs.Common.{sym, ◌∙◌}
use Rattle.simplex_rows.proofs.Likewise.{same_entries}
use Rattle.simplex_rows.proofs.row.FracRow.sweep_short.Goals as goal
use Rattle.simplex_rows.proofs.row.FracRow.sweep_short.Goals.{in-Short-numbers, in-Wide}

pub returns-clause-swept : goal.returns-clause-swept
returns-clause-swept c e = elim c.match-self.branch [
  | in-Short-numbers w ↦ rw (w.self-inside-is, ← c.lead.view_is, c.in-Short.is, ← c.in-Some.ensures, ← c.self.view_is, w.in-Short-numbers.is) (w.sweep.ensures.swept (sym w.result-is ∙ e))
  | in-Wide w ↦ absurd (let z = sym w.result-is ∙ e in cc)
]

pub returns-clause-kept : goal.returns-clause-kept
returns-clause-kept c e = elim c.match-self.branch [
  | in-Short-numbers w ↦ rw (w.self-inside-is, ← c.self.view_is, w.in-Short-numbers.is) (w.sweep.ensures.kept (sym w.result-is ∙ e))
  | in-Wide w ↦ rw (w.self-inside-is, c.self.view_is) (same_entries c.args.self.now)
]
