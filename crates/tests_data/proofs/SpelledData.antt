-- What short data spells.
use Rattle.std.proofs.Common.{◌≡◌, ℕ, List, [], ◌∷◌, refl, arith}
use Rattle.std.specs.Prelude.{codes, pos, negsuc}
use Rattle.std.specs.Fmt.{digits}
use Rattle.raml_syntax.specs.Tree.{Type', Integer, Boolean, PairOf, TreeOf, OptionOf}
use Rattle.raml_syntax.specs.Value as v
use Rattle.raml_syntax.specs.Value.{Value, HaveTypes}
use Rattle.value_text.specs.declared.fault.Kind.TheVariants.{Shape, TooDeep}
use Rattle.value_text.specs.declared.sign.Sign.TheVariants.{Open, Close, Comma, OpenList, CloseList}
use Rattle.value_text.specs.Lexing.{placed, kinds}
use Rattle.value_text.specs.Printing.{printed}
use Rattle.value_text.specs.Reading.{CanBegin, Faults, here}
use Rattle.value_text.specs.Spelling.{Key, Number, AreWithin, most_height, spell_all}
use Rattle.tests_data.specs.Spelled.{ints, one, two, node, Spells, SpelledData}

list_is : Spells (codes " [1,-2 ]") (ints ∷ []) (two ∷ [])
unfolding placed
list_is = record { typed = ((record { sfits = omega arith }, (record { sfits = omega arith }, tt)), tt); low = (omega arith, tt); tokens = refl }

several_is : Spells (codes "(some(1), node(true, leaf, leaf))") (OptionOf Integer ∷ TreeOf Boolean ∷ []) (v.Just one ∷ node ∷ [])
unfolding placed
several_is = record { typed = (record { sfits = omega arith }, ((tt, tt, tt), tt)); low = (omega arith, (omega arith, tt)); tokens = refl }

pair_is : Spells (codes "(1, [])") (PairOf Integer ints ∷ []) (v.Both one v.Empty ∷ [])
unfolding placed
pair_is = record { typed = ((record { sfits = omega arith }, tt), tt); low = (omega arith, tt); tokens = refl }

least_is : Spells (codes "-9223372036854775808") (Integer ∷ []) (v.Number (negsuc 9223372036854775807) ∷ [])
unfolding placed
least_is = record { typed = (record { sfits = omega arith }, tt); low = (omega arith, tt); tokens = refl }

abbrev ints_two : List Type'
ints_two = Integer ∷ Integer ∷ []

-- `(1` begins `(1, 1)`, and `(1)` begins nothing
begins_two : CanBegin ints_two most_height (Key Open ∷ Number (pos 1) ∷ [])
begins_two = record {
  more = Key Comma ∷ Number (pos 1) ∷ Key Close ∷ [];
  values = one ∷ one ∷ [];
  spelled = record { typed = (record { sfits = omega arith }, (record { sfits = omega arith }, tt)); low = (omega arith, (omega arith, tt)); tokens = refl };
}

no_two : (d : ℕ) → CanBegin ints_two d (Key Open ∷ Number (pos 1) ∷ Key Close ∷ []) → ⊥
no_two d c = go c.values c.spelled.typed c.spelled.tokens
  where
    go : (values : List Value) → HaveTypes values ints_two → Key Open ∷ Number (pos 1) ∷ Key Close ∷ c.more ≡ spell_all values ints_two → ⊥
    go [] h e = h
    go (v.Number m ∷ []) h e = h.1
    go (v.Number m ∷ y ∷ []) h e = absurd (cc)
    go (v.Number m ∷ y ∷ z ∷ zs) h e = h.1.1
    go (x ∷ xs) h e = h.0

one_of_two_is : Faults ints_two most_height (kinds (placed (codes "(1)"))) Shape (Key Close ∷ [])
unfolding placed
one_of_two_is = here refl (λ some. begins_two) (no_two most_height) no_two

-- `[` begins `[]`, and `[1` begins only what is higher
begins_list : CanBegin (ints ∷ []) 1 (Key OpenList ∷ [])
begins_list = record { more = Key CloseList ∷ []; values = v.Empty ∷ []; spelled = record { typed = (tt, tt); low = (omega arith, tt); tokens = refl } }

no_list : CanBegin (ints ∷ []) 1 (Key OpenList ∷ Number (pos 1) ∷ []) → ⊥
no_list c = go c.values c.spelled.typed c.spelled.low c.spelled.tokens
  where
    go : (values : List Value) → HaveTypes values (ints ∷ []) → AreWithin 1 values → Key OpenList ∷ Number (pos 1) ∷ c.more ≡ spell_all values (ints ∷ []) → ⊥
    go [] h low e = h
    go (v.Empty ∷ []) h low e = absurd (cc)
    go (v.Cons (v.Number m) y ∷ []) h low e = let p = low.0 in omega (arith, p)
    go (v.Cons x y ∷ []) h low e = h.0.0
    go (x ∷ []) h low e = h.0
    go (x ∷ y ∷ ys) h low e = h.1

higher_list : CanBegin (ints ∷ []) 2 (Key OpenList ∷ Number (pos 1) ∷ [])
higher_list = record { more = Key CloseList ∷ []; values = v.Cons one v.Empty ∷ []; spelled = record { typed = ((record { sfits = omega arith }, tt), tt); low = (omega arith, tt); tokens = refl } }

too_deep_is : Faults (ints ∷ []) 1 (kinds (placed (codes "[1]"))) TooDeep (Number (pos 1) ∷ Key CloseList ∷ [])
unfolding placed
too_deep_is = here refl (λ some. begins_list) no_list (2, higher_list)

numbers_are : printed two ints ≡ codes "[1, -2]"
unfolding digits
numbers_are = refl

pub data_is_spelled : SpelledData
data_is_spelled = record {
  list = list_is;
  several = several_is;
  one_pair = pair_is;
  least = least_is;
  one_of_two = one_of_two_is;
  too_deep = too_deep_is;
  numbers = numbers_are;
  text = refl;
  empty_texts = refl;
  height_of_list = refl;
  height_of_lists = refl;
  held_pair = refl;
}
