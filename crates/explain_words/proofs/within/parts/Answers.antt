use Rattle.std.proofs.Common.{arith}
use Rattle.explain_words.proofs.Cuts.{cut_from}
use Rattle.explain_words.proofs.within.parts.Goals as goal

pub returns : goal.returns
returns c = cut_from 61 (omega arith) c.args.word.now c.split_once.result c.split_once.ensures.cases
