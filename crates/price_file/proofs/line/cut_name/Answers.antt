use Rattle.std.proofs.Common.{arith}
use Rattle.raml_syntax.proofs.Cuts.{cut_from}
use Rattle.price_file.proofs.line.cut_name.Goals as goal

pub returns : goal.returns
returns c = cut_from 32 (omega arith) c.args.line.now c.split_once.result c.split_once.ensures.cases
