-- The examples compute.
use Rattle.std.proofs.Common.{refl}
use Rattle.std.specs.Fmt.{digits}
use lib.Utf8.{encode}
use Rattle.explain_nested.specs.Example.{Examples}

pub examples_hold : Examples
unfolding digits encode
examples_hold = record {
  sum_sign = refl;
  dot = refl;
  reading_of_numbers = refl;
  all_numbers = refl;
  numbers_of_two = refl;
  pairs_of_numbers = refl;
  pairs_of_lists = refl;
  flat = refl;
  once = refl;
  twice = refl;
  within_one = refl;
  lists_alone = refl;
  and_later = refl;
  deeper = refl;
  two_parameters = refl;
  both_nested = refl;
  pairs = refl;
  parts = refl;
  option = refl;
  options = refl;
  nothing = refl;
  one = refl;
}
