-- The examples compute.
use Rattle.std.proofs.Common.{refl}
use Rattle.explain_counts.specs.Example.{Examples}

pub examples_hold : Examples
examples_hold = record {
  indented = refl;
  in_the_indentation = refl;
  no_text = refl;
  first = refl;
  none = refl;
  bound = refl;
  constant = refl;
  no_bound = refl;
}
