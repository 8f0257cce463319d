-- The examples compute.
use Rattle.std.proofs.Common.{refl}
use Rattle.explain_at.specs.Example.{Examples}

pub examples_hold : Examples
examples_hold = record {
  two = refl;
  ten_digits = refl;
  eleven_digits = refl;
  no_number = refl;
  no_digits = refl;
  no_name = refl;
  signed = refl;
  behind_comma = refl;
  again = refl;
  of_lists = refl;
  of_pairs = refl;
  sizes = refl;
  open_inner = refl;
  of_tree = refl;
  no_size = refl;
  not_given = refl;
  none_open = refl;
  two_open = refl;
}
