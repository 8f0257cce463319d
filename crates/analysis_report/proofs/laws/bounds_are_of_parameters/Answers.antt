use Rattle.analysis_report.proofs.Tuples.{bounds_are_of_parameters}
use Rattle.analysis_report.proofs.laws.bounds_are_of_parameters.Goals as goal

pub returns : goal.returns
returns c = bounds_are_of_parameters
