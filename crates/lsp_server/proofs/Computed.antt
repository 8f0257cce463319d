-- The examples compute.
use Rattle.std.proofs.Common.{refl}
use Rattle.lsp_server.specs.Example.{Examples}

pub examples_hold : Examples
examples_hold = record {
  starts = refl;
  starts_once = refl;
  stops = refl;
  early = refl;
  served = refl;
  renames = refl;
  unknown = refl;
  cancelled = refl;
  ends = refl;
  ends_early = refl;
  goes_on = refl;
  first = refl;
  opens = refl;
  opens_again = refl;
  changes = refl;
  changes_none = refl;
  closes = refl;
}
