use Rattle.std.proofs.Common.{sym, ap, ◌∙◌}
use Rattle.explain_declared.proofs.Marks.{before_of, before_split}
use Rattle.explain_declared.proofs.place.before_mark.Goals as goal

pub returns-in-Some : goal.returns-in-Some
returns-in-Some c = ap (before_of c.args.text.now) (sym c.in-Some.is) ∙ before_split c.args.mark c.requires c.args.text.now c.split_once.result c.split_once.ensures.cases

pub returns-in-None : goal.returns-in-None
returns-in-None c = ap (before_of c.args.text.now) (sym c.in-None.is) ∙ before_split c.args.mark c.requires c.args.text.now c.split_once.result c.split_once.ensures.cases
