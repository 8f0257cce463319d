-- The examples compute.
use Rattle.std.proofs.Common.{refl}
use Rattle.explain_places.specs.Example.{Examples}

pub examples_hold : Examples
examples_hold = record {
  first_line = refl;
  first_column = refl;
  newline_line = refl;
  newline_column = refl;
  newline_text = refl;
  next_line = refl;
  next_column = refl;
  next_start = refl;
  behind_character = refl;
  next_text = refl;
  end_line = refl;
  end_column = refl;
  end_text = refl;
  past_line = refl;
  past_start = refl;
  past_text = refl;
}
