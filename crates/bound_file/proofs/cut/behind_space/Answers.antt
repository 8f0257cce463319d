use Rattle.std.proofs.Common.{arith}
use Rattle.std.proofs.lemmas.Str.Pattern.{strip_prefix_char}
use Rattle.bound_file.proofs.Sums.{behind_from}
use Rattle.bound_file.proofs.cut.behind_space.Goals as goal

pub returns : goal.returns
returns c = behind_from c.args.text.now c.strip_prefix.result (strip_prefix_char 32 c.args.text.now c.strip_prefix.result c.strip_prefix.ensures.cases (omega arith))
