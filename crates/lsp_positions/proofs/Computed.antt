-- The examples compute.
use Rattle.std.proofs.Common.{refl}
use Rattle.lsp_positions.specs.Example.{Examples}

pub examples_hold : Examples
examples_hold = record {
  starts = refl;
  empty = refl;
  first = refl;
  line_end = refl;
  in_ending = refl;
  accent = refl;
  face = refl;
  behind_face = refl;
  behind_face_in_bytes = refl;
  lone_return = refl;
  at_end = refl;
  past_end = refl;
  to_face = refl;
  in_face = refl;
  past_face = refl;
  in_face_in_bytes = refl;
  past_line = refl;
  past_first_line = refl;
  last_line = refl;
  past_lines = refl;
}
