use Rattle.std.proofs.lemmas.Result.{on_ok_weaker}
use Rattle.explain_text.proofs.Joined.{space_leads, break_leads}
use Rattle.explain_text.proofs.lines.Lines.lead.Goals as goal

pub returns-then-end-self-clause-text : goal.returns-then-end-self-clause-text
returns-then-end-self-clause-text c = on_ok_weaker c.append.result (λ e line h. space_leads _ line _ _ c.args.self.now.is_first c.if-self.false e h) c.append.ensures

pub returns-else-end-self-clause-text : goal.returns-else-end-self-clause-text
returns-else-end-self-clause-text c = on_ok_weaker c.push_break.result (λ e line h. break_leads _ line _ _ c.args.self.now.is_first c.if-self.false e h) c.push_break.ensures
