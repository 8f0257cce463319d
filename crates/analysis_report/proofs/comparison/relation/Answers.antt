use Rattle.analysis_report.proofs.Compared.{are_related}
use Rattle.analysis_report.proofs.comparison.relation.Goals as goal

pub returns : goal.returns
returns c = are_related c.relations_promise.ensures _ _ _ c.requires.first c.requires.second c.compare.ensures.stands
