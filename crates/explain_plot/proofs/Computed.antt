-- The examples compute.
use Rattle.std.proofs.Common.{refl}
use Rattle.explain_plot.specs.Example.{Examples}

pub examples_hold : Examples
examples_hold = record {
  several = refl;
  one = refl;
  nothing = refl;
  behind_comma = refl;
  before_comma = refl;
  twice = refl;
  descending = refl;
  too_great = refl;
  no_number = refl;
}
