-- The worked examples, computed.
use Rattle.std.proofs.Common.{refl}
use Rattle.std.specs.Prelude.{codes}
use Rattle.std.specs.Char.{encode_utf8}
use Rattle.bound_file.specs.Example.{program, Examples}
use Rattle.bound_file.proofs.Told.{told}

pub examples_hold : Examples
unfolding encode_utf8
examples_hold = record {
  no_lines = refl;
  empty_line = refl;
  two_lines = record { utf8 = (codes "a cells <= 1/3*<[_], []> + 2\na ticks <= 0", (refl, refl)); degree = refl; lines = told program 1 (codes "a cells <= 1/3*<[_], []> + 2\na ticks <= 0") (codes "a cells <= 1/3*<[_], []> + 2\na ticks <= 0", (refl, refl)) };
  zero_tuple = told program 1 (codes "a cells <= 5*<[], []>\n") (codes "a cells <= 5*<[], []>\n", (refl, refl));
  twice_in_a_line = told program 1 (codes "a cells <= 1 + 1") (codes "a cells <= 1 + 1", (refl, refl));
  zero_in_front = told program 1 (codes "a cells <= 01") (codes "a cells <= 01", (refl, refl));
  keyword = told program 1 (codes "let cells <= 1") (codes "let cells <= 1", (refl, refl));
  nought = told program 1 (codes "a cells <= 1 + 0*<[_], []>") (codes "a cells <= 1 + 0*<[_], []>", (refl, refl));
  past = told program 1 (codes "b cells <= 170141183460469231731687303715884105728") (codes "b cells <= 170141183460469231731687303715884105728", (refl, refl));
  unknown = told program 1 (codes "b cells <= 1*<[_]>") (codes "b cells <= 1*<[_]>", (refl, refl));
  above_degree = told program 1 (codes "a cells <= 1*<[_, _], []>") (codes "a cells <= 1*<[_, _], []>", (refl, refl));
  twice = told program 1 (codes "a cells <= 0\na ticks <= 0\na cells <= 1\na") (codes "a cells <= 0\na ticks <= 0\na cells <= 1\na", (refl, refl));
}
