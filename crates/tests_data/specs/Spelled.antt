-- What short data spells, its first faults, and how values are printed and held, worked out by hand.
use Rattle.std.specs.Prelude.{◌≡◌, pos, negsuc, List, [], ◌∷◌, true, false, codes}
use Rattle.raml_syntax.specs.Tree.{Text, Type', Integer, Boolean, PairOf, ListOf, TreeOf, OptionOf}
use Rattle.raml_syntax.specs.Value.{Value, Number, Truth, Both, Empty, Cons, Node, Just}
use Rattle.value_text.specs.declared.fault.Kind.TheVariants.{Shape, TooDeep}
use Rattle.value_text.specs.declared.sign.Sign.TheVariants.{Close, CloseList}
use Rattle.value_text.specs.declared.word.Word.TheVariants as w
use Rattle.value_text.specs.declared.word.Cell.TheVariants as c
use Rattle.value_text.specs.Held.{held, value_of}
use Rattle.value_text.specs.Lexing.{placed, kinds}
use Rattle.value_text.specs.Printing.{printed}
use Rattle.value_text.specs.Reading.{Spell, Faults}
use Rattle.value_text.specs.Spelling as s
use Rattle.value_text.specs.Spelling.{Key, most_height, height}

abbrev pub ints : Type'
ints = ListOf Integer

abbrev pub one : Value
one = Number (pos 1)

-- [1, -2]
abbrev pub two : Value
two = Cons one (Cons (Number (negsuc 1)) Empty)

-- node(true, leaf, leaf)
abbrev pub node : Value
node = Node (Truth true) Empty Empty

-- the data spells these values of these types
abbrev pub Spells : Text → List Type' → List Value → Type 0
Spells data' types values = Spell types most_height (kinds (placed data')) values

pub record SpelledData : Type 0 where
  -- one argument stands alone, several in parentheses; white space may stand between tokens
  pub list : Spells (codes " [1,-2 ]") (ints ∷ []) (two ∷ [])
  pub several : Spells (codes "(some(1), node(true, leaf, leaf))") (OptionOf Integer ∷ TreeOf Boolean ∷ []) (Just one ∷ node ∷ [])
  pub one_pair : Spells (codes "(1, [])") (PairOf Integer ints ∷ []) (Both one Empty ∷ [])
  pub least : Spells (codes "-9223372036854775808") (Integer ∷ []) (Number (negsuc 9223372036854775807) ∷ [])
  -- of two arguments one is no data: its `)` cannot stand
  pub one_of_two : Faults (Integer ∷ Integer ∷ []) most_height (kinds (placed (codes "(1)"))) Shape (Key Close ∷ [])
  -- nor can an element of a list, where no value may be higher than 1
  pub too_deep : Faults (ints ∷ []) 1 (kinds (placed (codes "[1]"))) TooDeep (s.Number (pos 1) ∷ Key CloseList ∷ [])
  -- one space behind each comma, and nowhere else
  pub numbers : printed two ints ≡ codes "[1, -2]"
  pub text : printed (Both (Cons (Truth true) (Cons (Truth false) Empty)) node)
      (PairOf (ListOf Boolean) (TreeOf Boolean)) ≡ codes "([true, false], node(true, leaf, leaf))"
  -- the empty value is printed as its type has it
  pub empty_texts : printed (Both Empty (Both Empty (Just Empty)))
      (PairOf ints (PairOf (TreeOf Integer) (OptionOf (OptionOf Integer)))) ≡ codes "([], (leaf, some(none)))"
  -- a list is one higher than its highest element, however long it is
  pub height_of_list : height (Cons one (Cons one (Cons one Empty))) ≡ 2
  pub height_of_lists : height (Cons Empty (Cons (Cons one Empty) Empty)) ≡ 3
  -- a word names a cell, which names earlier cells
  pub held_pair : value_of
      (held (c.Cons (w.Int (pos 1)) w.Empty ∷ c.Pair (w.Cell 0) (w.Bool true) ∷ [])) (w.Cell 1) ≡ Both (Cons one Empty) (Truth true)
