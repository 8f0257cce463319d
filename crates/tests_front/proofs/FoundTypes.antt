-- The types of small expressions and programs.
use Rattle.std.proofs.Common.{◌∷◌, [], refl}
use Rattle.raml_syntax.specs.Tree.{Integer, Boolean}
use Rattle.simple_types.specs.Fault.{Is, Wanted}
use Rattle.simple_types.proofs.Typing.{walks_are_typings}
use Rattle.tests_front.specs.Typing.{head, wrong, FoundTypes}

pub types_are_found : FoundTypes
types_are_found = record {
  checked = refl;
  not_found = refl;
  found = refl;
  typed = (walks_are_typings (head ∷ [])).whole.0 refl;
  left = refl;
  leaf = refl;
  pair = refl;
  arity = refl;
  functions_first = refl;
  then_headers = refl;
  then_bodies = refl;
  untyped = (walks_are_typings (wrong ∷ [])).faulty.0 (Wanted 24 (Is Integer) (Is Boolean), refl);
  pairs_to_right = refl;
  pairs_to_left = refl;
  list_of_pairs = refl;
  some_list = refl;
}
