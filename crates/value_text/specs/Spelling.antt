-- The tokens of values.
use Rattle.std.specs.Prelude.{◌≤◌, ◌+◌, ℕ, ℤ, suc, max, Bool, List, [], ◌∷◌}
use Rattle.raml_syntax.specs.Tree.{Type', PairOf, ListOf, TreeOf, OptionOf}
use Rattle.raml_syntax.specs.Value as v
use Rattle.raml_syntax.specs.Value.{Value, size}
use Rattle.value_text.specs.declared.sign.Sign.{Sign}
use Rattle.value_text.specs.declared.sign.Sign.TheVariants.{Open, Close, Comma, OpenList, CloseList, Leaf, Node, Nothing, Just}

pub data Token : Type 0 where
  Key : Sign → Token
  Number : ℤ → Token
  Truth : Bool → Token
  Other : Token  -- what no data holds

-- the empty value of a type, and then s
abbrev pub spell_empty : Type' → List Token → List Token
spell_empty (TreeOf A) s = Key Leaf ∷ s
spell_empty (OptionOf A) s = Key Nothing ∷ s
spell_empty _ s = Key OpenList ∷ Key CloseList ∷ s

abbrev mutual
  -- the tokens of a value, as one of the type, and then s
  pub spell : Value → Type' → List Token → List Token
  spell (v.Number n) A s = Number n ∷ s
  spell (v.Truth b) A s = Truth b ∷ s
  spell v.Empty A s = spell_empty A s
  spell (v.Both x y) (PairOf A B) s = Key Open ∷ spell x A (Key Comma ∷ spell y B (Key Close ∷ s))
  spell (v.Cons x y) (ListOf A) s = Key OpenList ∷ spell x A (spell_tail y A s)
  spell (v.Node x y z) (TreeOf A) s =
      Key Node ∷ Key Open ∷ spell x A (Key Comma ∷ spell y (TreeOf A) (Key Comma ∷ spell z (TreeOf A) (Key Close ∷ s)))
  spell (v.Just x) (OptionOf A) s = Key Just ∷ Key Open ∷ spell x A (Key Close ∷ s)
  spell _ A s = s

  -- the tokens of the rest of a list, behind an element of the type
  pub spell_tail : Value → Type' → List Token → List Token
  spell_tail v.Empty A s = Key CloseList ∷ s
  spell_tail (v.Cons x y) A s = Key Comma ∷ spell x A (spell_tail y A s)
  spell_tail _ A s = s

-- the values behind the first of several arguments, and then s
abbrev pub spell_more : List Value → List Type' → List Token → List Token
spell_more (x ∷ xs) (A ∷ As) s = Key Comma ∷ spell x A (spell_more xs As s)
spell_more _ _ s = Key Close ∷ s

-- the tokens of arguments: a value, or several in parentheses
abbrev pub spell_all : List Value → List Type' → List Token
spell_all (x ∷ []) (A ∷ []) = spell x A []
spell_all (x ∷ y ∷ xs) (A ∷ B ∷ As) = Key Open ∷ spell x A (spell_more (y ∷ xs) (B ∷ As) [])
spell_all _ _ = []

-- 1 without parts; else one more than the greatest height of the parts, which of a list are its elements
abbrev pub height : Value → ℕ
height (v.Both x y) = suc (max (height x) (height y))
height (v.Cons x y) = max (suc (height x)) (height y)
height (v.Node x y z) = suc (max (height x) (max (height y) (height z)))
height (v.Just x) = suc (height x)
height _ = 1

-- the greatest height of a value that data spells
abbrev pub most_height : ℕ
most_height = 400

-- no value is higher than d
abbrev pub AreWithin : ℕ → List Value → Type 0
AreWithin d [] = Unit {0}
AreWithin d (x ∷ xs) = (height x ≤ d) × AreWithin d xs

-- the number of cells of the values
abbrev pub sizes : List Value → ℕ
sizes [] = 0
sizes (x ∷ xs) = size x + sizes xs
