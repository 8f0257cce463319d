-- The examples compute.
use Rattle.std.proofs.Common.{refl}
use Rattle.explain_words.specs.Example.{Examples}

pub examples_hold : Examples
examples_hold = record {
  degree = refl;
  no_degree = refl;
  two_digits = refl;
  signed = refl;
  width = refl;
  narrow = refl;
  spent = refl;
  most = refl;
  too_much = refl;
  nothing = refl;
  no_meter = refl;
  no_number = refl;
  two_marks = refl;
}
