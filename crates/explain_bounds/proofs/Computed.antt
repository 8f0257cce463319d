-- The examples compute.
use Rattle.std.proofs.Common.{refl}
use Rattle.std.specs.Fmt.{digits}
use lib.Utf8.{encode}
use Rattle.explain_bounds.specs.Example.{Examples}

pub examples : Examples
unfolding digits encode
examples = record {
  as_given = refl;
  by_names = refl;
  up_to = refl;
  any = refl;
  never = refl;
  value = refl;
  greatest = refl;
  greater = refl;
  sign = refl;
  legend = refl;
  no_legend = refl;
  calls = refl;
}
