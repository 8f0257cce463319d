-- Small cases, worked out by hand.
use Rattle.std.specs.Prelude.{◌≡◌, ◌*◌, true, false, Some, None, List, [], ◌∷◌, length, codes, encode_utf8_all}
use Rattle.raml_syntax.specs.Tree.{Text, Type', Integer, ListOf, TreeOf}
use Rattle.base_poly.specs.Plain.{Unit'}
use Rattle.base_poly.specs.Poly.{Term}
use Rattle.bound_compare.specs.Laws.{picks}
use Rattle.bound_compare.specs.Powers.{Powers, powers_of}
use Rattle.explain_algebra.specs.Algebra.{size_names, algebra_text, legend_text}
use Rattle.explain_algebra.specs.Laws.{are_shallow}
use Rattle.explain_reading.specs.Reading.{used_names}

-- a list, a number that is called by a letter of sizes, a tree and a list
abbrev types : List Type'
types = ListOf Integer ∷ Integer ∷ TreeOf Integer ∷ ListOf Integer ∷ []

abbrev params : List Text
params = codes "l" ∷ codes "m" ∷ codes "t" ∷ codes "r" ∷ []

-- 3*<[], _, [_], [_]> + 2*<[], _, [], [_]> + 1, over 2: no power of the first list occurs
abbrev terms : List Term
terms =
    (picks 0 ∷ Unit' ∷ picks 0 ∷ picks 0 ∷ [], 1) ∷ (picks 0 ∷ Unit' ∷ picks 0 ∷ picks 1 ∷ [], 2)
    ∷ (picks 0 ∷ Unit' ∷ picks 1 ∷ picks 1 ∷ [], 3) ∷ []

abbrev powers : Powers
powers = powers_of (length types) terms

pub record Examples : Type 0 where
  pub shallow : are_shallow types ≡ true
  pub deep : are_shallow (ListOf (ListOf Integer) ∷ []) ≡ false
  pub occur : used_names powers (size_names params types) ≡ None ∷ None ∷ Some 107 ∷ Some 106 ∷ []
  pub sum : algebra_text (24 * 2) (size_names params types) powers ≡ encode_utf8_all (codes "3/2·k·j + j + 1/2")
  pub legend : legend_text (used_names powers (size_names params types)) params ≡ codes "k = |t|, j = |r|"
  pub constant : legend_text (used_names (powers_of 1 ((picks 0 ∷ [], 7) ∷ [])) (size_names [] (ListOf Integer ∷ []))) params ≡ []
