-- The examples compute.
use Rattle.std.proofs.Common.{refl}
use Rattle.std.specs.Fmt.{digits}
use lib.Utf8.{encode}
use Rattle.explain_reading.specs.Example.{Examples}

pub examples : Examples
unfolding digits encode
examples = record { shallow = refl; deep = refl; occur = refl; sum = refl; legend = refl; constant = refl }
