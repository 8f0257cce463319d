-- The examples compute.
use Rattle.std.proofs.Common.{refl}
use Rattle.lsp_requests.specs.Example.{Examples}

pub examples_hold : Examples
examples_hold = record {
  request = refl;
  by_text = refl;
  notification = refl;
  response = refl;
  null_id = refl;
  no_text = refl;
  no_version = refl;
  no_object = refl;
  nothing_said = refl;
  failed = refl;
  in_use = refl;
}
