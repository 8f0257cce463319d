-- The examples compute.
use Rattle.std.proofs.Common.{refl, pos, arith}
use Rattle.std.proofs.lemmas.List.Elements.{All-replicate}
use Rattle.raml_syntax.specs.Value.{Number}
use Rattle.explain_sizes.specs.Sizes.{NoSize, IsWithin, HasExactly}
use Rattle.explain_sizes.specs.Example.{Examples}

pub examples_hold : Examples
examples_hold = record {
  two_of_four = refl;
  too_many = refl;
  no_entry = refl;
  quicksort_at_100 = refl;
  quicksort_at_none = refl;
  all_numbers = refl;
  later = refl;
  pair = refl;
  tuple = refl;
  option = refl;
  whole_part = refl;
  exactly = (tt, refl, All-replicate (HasExactly NoSize) 2 (Number (pos 0)) tt);
  within = (tt, omega arith, All-replicate (IsWithin NoSize) 2 (Number (pos 0)) tt);
  nothing_within = tt;
  longer_is_not_within = λ h. omega (arith, h.1);
  none_is_not_exact = λ h. h;
  at_most = (omega arith, (omega arith, tt));
  more_is_not_at_most = λ h. omega (arith, h.1.0);
  outer_filled = refl;
  inner_filled = refl;
  kept_at_99 = refl;
  all_at_20 = refl;
  all_at_21 = refl;
}
