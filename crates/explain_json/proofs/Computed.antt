-- The examples compute.
use Rattle.std.proofs.Common.{refl}
use Rattle.std.specs.Fmt.{digits}
use Rattle.json.specs.Print.{print_from, escape_byte}
use Rattle.explain_json.specs.Example.{Examples}

pub examples : Examples
unfolding digits print_from escape_byte
examples = record { none = refl; lowest = refl; two = refl }
