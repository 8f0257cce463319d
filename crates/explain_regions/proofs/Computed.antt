-- The examples compute.
use Rattle.std.proofs.Common.{refl}
use Rattle.explain_regions.specs.Example.{Examples}

pub examples_hold : Examples
examples_hold = record {
  sites = refl;
  on_lines = refl;
  counted = refl;
  other = refl;
}
