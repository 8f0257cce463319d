-- Small bounds, worked out by hand.
use Rattle.std.specs.Prelude.{◌≡◌, ℕ, zero, suc, pos, List, [], ◌∷◌, codes, encode_utf8_all}
use Rattle.raml_syntax.specs.Tree.{Text}
use Rattle.raml_syntax.specs.Value.{Value, Number, Empty, Cons}
use Rattle.base_poly.specs.Plain.{Plain, Unit', Pair, End, Then, OneEntry, many}
use Rattle.base_poly.specs.Poly.{Term}
use Rattle.explain_nested.specs.Reading.{Named, Choices, Elements, meaning, tuple_reading}
use Rattle.explain_nested.specs.Text.{value_names, sum_over, times, sum_text}

-- as many entries of degree 0
abbrev units : ℕ → Plain
units zero = End
units (suc n) = Then Unit' (units n)

-- the bound of a function with these parameters
abbrev bound : List Text → ℕ → List Term → Text
bound params den ts = sum_text den (value_names params) ts

-- of a list of lists: each number of all lists; a number of one list and one of a later list; two numbers of one list; two lists
abbrev numbers : Plain
numbers = many (units 1 ∷ [])

abbrev in_two : Plain
in_two = many (units 1 ∷ units 1 ∷ [])

abbrev two_in_one : Plain
two_in_one = many (units 2 ∷ [])

abbrev two_lists : Plain
two_lists = many (End ∷ End ∷ [])

-- lists with 2, 0 and 3 numbers
abbrev list_of : List Value → Value
list_of [] = Empty
list_of (v ∷ vs) = Cons v (list_of vs)

abbrev some : ℕ → Value
some zero = Empty
some (suc n) = Cons (Number (pos 0)) (some n)

abbrev lists : List Value
lists = list_of (some 2 ∷ some 0 ∷ some 3 ∷ []) ∷ []

pub record Examples : Type 0 where
  pub sum_sign : sum_over ≡ encode_utf8_all (codes "Σ(")
  pub dot : times ≡ encode_utf8_all (codes "·")
  pub reading_of_numbers : tuple_reading (numbers ∷ []) ≡ Elements (Named 0) 1 ∷ Choices (Named 1) 1 ∷ []
  pub all_numbers : meaning (tuple_reading (numbers ∷ [])) lists ≡ 5
  pub numbers_of_two : meaning (tuple_reading (in_two ∷ [])) lists ≡ 6
  pub pairs_of_numbers : meaning (tuple_reading (two_in_one ∷ [])) lists ≡ 4
  pub pairs_of_lists : meaning (tuple_reading (two_lists ∷ [])) lists ≡ 3
  pub flat : bound (codes "l" ∷ []) 2
      (((units 2 ∷ []), 3) ∷ ((units 1 ∷ []), 2) ∷ ((End ∷ []), 4) ∷ []) ≡ encode_utf8_all (codes "3/2·C(|l|,2) + |l| + 2")
  pub once : bound (codes "l" ∷ []) 1 (((numbers ∷ []), 1) ∷ []) ≡ encode_utf8_all (codes "Σ(x in l) |x|")
  pub twice : bound (codes "l" ∷ []) 1 (((in_two ∷ []), 2) ∷ []) ≡ encode_utf8_all (codes "2·Σ(x before y in l) |x|·|y|")
  pub within_one : bound (codes "l" ∷ []) 1 (((two_in_one ∷ []), 5) ∷ []) ≡ encode_utf8_all (codes "5·Σ(x in l) C(|x|,2)")
  pub lists_alone : bound (codes "l" ∷ []) 1 (((two_lists ∷ []), 1) ∷ []) ≡ codes "C(|l|,2)"
  -- a number of one list and a later list
  pub and_later : bound (codes "l" ∷ []) 1 (((many (units 1 ∷ End ∷ []) ∷ []), 1) ∷ []) ≡ encode_utf8_all (codes "Σ(x before y in l) |x|")
  -- lists of lists of lists
  pub deeper : bound (codes "l" ∷ []) 1 (((many (numbers ∷ []) ∷ []), 7) ∷ []) ≡ encode_utf8_all (codes "7·Σ(x in l) Σ(y in x) |y|")
  -- two parameters, of which one has the name of the first letter
  pub two_parameters : bound (codes "x" ∷ codes "l" ∷ []) 1 (((units 1 ∷ numbers ∷ []), 4) ∷ [])
      ≡ encode_utf8_all (codes "4·|x|·Σ(y in l) |y|")
  pub both_nested : bound (codes "l" ∷ codes "r" ∷ []) 1 (((numbers ∷ numbers ∷ []), 1) ∷ [])
      ≡ encode_utf8_all (codes "Σ(x in l) |x|·Σ(y in r) |y|")
  -- a list of pairs of a list and a number, and a pair of lists
  pub pairs : bound (codes "l" ∷ []) 1 (((many (Pair (units 1) Unit' ∷ []) ∷ []), 3) ∷ []) ≡ encode_utf8_all (codes "3·Σ(x in l) |x.first|")
  pub parts : bound (codes "p" ∷ []) 1 (((Pair (units 1) (units 2) ∷ []), 3) ∷ []) ≡ encode_utf8_all (codes "3·|p.first|·C(|p.second|,2)")
  -- options of a list, and a list of options of numbers
  pub option : bound (codes "o" ∷ []) 1 (((OneEntry (units 1) ∷ []), 1) ∷ ((OneEntry End ∷ []), 6) ∷ [])
      ≡ encode_utf8_all (codes "Σ(x held by o) |x| + 6·Σ(x held by o) 1")
  pub options : bound (codes "l" ∷ []) 1 (((many (OneEntry Unit' ∷ []) ∷ []), 1) ∷ [])
      ≡ encode_utf8_all (codes "Σ(x in l) Σ(y held by x) 1")
  pub nothing : bound (codes "l" ∷ []) 1 [] ≡ codes "0"
  pub one : bound [] 1 (([], 1) ∷ []) ≡ codes "1"
