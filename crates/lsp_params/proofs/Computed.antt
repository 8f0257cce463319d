-- The examples compute.
use Rattle.std.proofs.Common.{refl}
use Rattle.lsp_params.specs.Example.{Examples}

pub examples_hold : Examples
examples_hold = record {
  hover = refl;
  lenses = refl;
  folds = refl;
  prepare = refl;
  new_name = refl;
  no_name = refl;
  no_document = refl;
  no_range = refl;
  opening = refl;
  changes = refl;
  no_version = refl;
  offered = refl;
  not_offered = refl;
  nothing = refl;
}
