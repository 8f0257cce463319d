use Rattle.std.proofs.Common.{arith}
use Rattle.std.proofs.lemmas.Str.Pattern.{strip_suffix_char}
use Rattle.bound_file.proofs.Sums.{before_from}
use Rattle.bound_file.proofs.cut.before_space.Goals as goal

pub returns : goal.returns
returns c = before_from c.args.text.now c.strip_suffix.result (strip_suffix_char 32 c.args.text.now c.strip_suffix.result c.strip_suffix.ensures.cases (omega arith))
