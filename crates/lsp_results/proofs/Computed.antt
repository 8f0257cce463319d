-- The examples compute.
use Rattle.std.proofs.Common.{refl}
use Rattle.lsp_results.specs.Example.{Examples}

pub examples_hold : Examples
examples_hold = record {
  units = refl;
  bytes = refl;
  backwards = refl;
  at_start = refl;
  at_end = refl;
  in_nothing = refl;
  stands_at_end = refl;
  first_of_two = refl;
  stands_nowhere = refl;
  refused = refl;
}
