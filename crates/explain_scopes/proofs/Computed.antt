-- The examples compute.
use Rattle.std.proofs.Common.{refl}
use Rattle.explain_scopes.specs.Example.{Examples}

pub examples_hold : Examples
examples_hold = record {
  places = refl;
  all = refl;
  behind = refl;
  hidden = refl;
  called = refl;
  nothing = refl;
  levels = refl;
  taken = refl;
  free = refl;
  called_so = refl;
  parts = refl;
  one_name = refl;
  no_name = refl;
  outline = refl;
  nameless = refl;
}
