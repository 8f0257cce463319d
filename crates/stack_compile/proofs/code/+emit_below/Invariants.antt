use Rattle.std.proofs.Common.{length}
use Rattle.stack_compile.proofs.code.+emit_below.Given as goal

abbrev pub decreases-emit_below : goal.decreases-emit_below
decreases-emit_below l = length l.params.now
