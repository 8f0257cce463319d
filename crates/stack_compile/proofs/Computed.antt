-- The worked examples, computed.
use Rattle.std.proofs.Common.{refl}
use Rattle.std.specs.Int.{int_wrap}
use Rattle.stack_compile.specs.Example.{Examples}

pub examples_hold : Examples
unfolding int_wrap
examples_hold = search refl
