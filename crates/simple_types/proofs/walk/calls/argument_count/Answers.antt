use Rattle.std.proofs.Common.{sym, arith}
use Rattle.simple_types.proofs.Forms.{count_terms}
use Rattle.simple_types.proofs.walk.calls.argument_count.Goals as goal

pub overflow_cast-result : goal.overflow_cast-result
overflow_cast-result c = omega (arith, c.requires, count_terms c.args.args.now)

pub returns : goal.returns
returns c = sym (count_terms c.args.args.now)
