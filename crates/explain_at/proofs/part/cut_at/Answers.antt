use Rattle.raml_syntax.proofs.Cuts.{cut_from}
use Rattle.explain_at.proofs.part.cut_at.Goals as goal

pub returns : goal.returns
returns c = cut_from c.args.mark c.requires c.args.text.now c.split_once.result c.split_once.ensures.cases
