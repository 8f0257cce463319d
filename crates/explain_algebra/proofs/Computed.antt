-- The examples compute.
use Rattle.std.proofs.Common.{refl}
use Rattle.std.specs.Fmt.{digits}
use lib.Utf8.{encode}
use Rattle.explain_algebra.specs.Example.{Examples}

pub examples : Examples
unfolding digits encode
examples = record {
  names = refl;
  taken = refl;
  dot = refl;
  square = refl;
  cube = refl;
  fourth = refl;
  fifth = refl;
  work = refl;
  over = refl;
  ticks = refl;
  two = refl;
  behind = refl;
  choices_of_four = refl;
  one = refl;
  zero = refl;
  less = refl;
  legend = refl;
  legend_of_one = refl;
  no_legend = refl;
}
