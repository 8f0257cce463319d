use Rattle.raml_syntax.specs.Read.{program_of}
use Rattle.explain_runs.proofs.Reading.{too_long}
use Rattle.explain_runs.proofs.measuring.measure.Goals as goal

pub returns-then-data-gt-MOST_DATA : goal.returns-then-data-gt-MOST_DATA
returns-then-data-gt-MOST_DATA c = too_long (program_of c.args.typed.now) c.args.fun.0 c.args.data.now c.if-data-gt-MOST_DATA.true
