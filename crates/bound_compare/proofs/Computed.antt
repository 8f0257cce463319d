-- The examples compute.
use Rattle.std.proofs.Common.{refl}
use Rattle.std.specs.Fmt.{digits}
use Rattle.bound_compare.specs.Example.{Examples}

pub examples : Examples
unfolding digits
examples = search refl
