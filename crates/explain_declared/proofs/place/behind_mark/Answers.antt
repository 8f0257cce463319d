use Rattle.std.proofs.Common.{sym, ap, ◌∙◌}
use Rattle.explain_declared.proofs.Marks.{behind_of, behind_split}
use Rattle.explain_declared.proofs.place.behind_mark.Goals as goal

pub returns-in-Some : goal.returns-in-Some
returns-in-Some c = ap (behind_of) (sym c.in-Some.is) ∙ behind_split c.args.mark c.requires c.args.text.now c.split_once.result c.split_once.ensures.cases

pub returns-in-None : goal.returns-in-None
returns-in-None c = ap (behind_of) (sym c.in-None.is) ∙ behind_split c.args.mark c.requires c.args.text.now c.split_once.result c.split_once.ensures.cases
