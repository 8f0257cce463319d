-- The examples compute.
use Rattle.std.proofs.Common.{refl}
use Rattle.lsp_documents.specs.Example.{Examples}

pub examples_hold : Examples
examples_hold = record {
  whole = refl;
  face = refl;
  half_face = refl;
  rest = refl;
  at_end = refl;
  backwards = refl;
}
