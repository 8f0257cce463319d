-- What is still to be read of data.
use Rattle.std.specs.Prelude.{◌≡◌, ◌≤◌, ◌+◌, ◌++◌, ℕ, zero, suc, max, List, [], ◌∷◌, Option, Some, None, FitsSigned}
use Rattle.std.specs.Int.{w64}
use Rattle.raml_syntax.specs.Tree.{Type', Integer, Boolean, PairOf, ListOf, TreeOf, OptionOf}
use Rattle.raml_syntax.specs.Value as v
use Rattle.raml_syntax.specs.Value.{Value, Has, HaveTypes}
use Rattle.value_text.specs.declared.sign.Sign.{Sign}
use Rattle.value_text.specs.declared.sign.Sign.TheVariants.{Open, Close, Comma, OpenList, CloseList, Leaf, Nothing}
use Rattle.value_text.specs.declared.sign.Sign.TheVariants as k
use Rattle.value_text.specs.declared.fault.Kind.{Kind}
use Rattle.value_text.specs.declared.fault.Kind.TheVariants.{Shape, TooDeep}
use Rattle.value_text.specs.Spelling.{Token, Key, Number, Truth, spell, spell_tail, spell_more, height, most_height, AreWithin}

-- The number behind a type tells in how many forms the value stands.
pub data Goal : Type 0 where
  Value' : Type' → ℕ → Goal  -- a value
  First : Type' → ℕ → Goal  -- what stands behind `[`, up to `]`
  Tail : Type' → ℕ → ℕ → Goal  -- the rest of a list, of which so many elements are read
  Sign' : Sign → Goal
  More : List Type' → Goal  -- the other arguments
  Pair : Goal  -- two values are read
  Node : Goal  -- three values are read
  Just : Goal  -- one value is read

-- the value that was read last, and those before
abbrev pub top : List Value → Value
top [] = v.Empty
top (x ∷ xs) = x

abbrev pub below : List Value → List Value
below [] = []
below (x ∷ xs) = xs

-- a pair of the two last values, a node of the three last, the last as the content of an option
abbrev pub paired : List Value → List Value
paired vs = v.Both (top (below vs)) (top vs) ∷ below (below vs)

abbrev pub noded : List Value → List Value
noded vs = v.Node (top (below (below vs))) (top (below vs)) (top vs) ∷ below (below (below vs))

abbrev pub justed : List Value → List Value
justed vs = v.Just (top vs) ∷ below vs

-- the list of the n last values and the rest t, behind those before
abbrev pub joined : ℕ → List Value → Value → List Value
joined zero vs t = t ∷ vs
joined (suc n) vs t = joined n (below vs) (v.Cons (top vs) t)

abbrev pub pushed : List Value → List Value → List Value
pushed [] vs = vs
pushed (x ∷ xs) vs = pushed xs (x ∷ vs)

abbrev pub spell_first : Value → Type' → List Token → List Token
spell_first (v.Cons x y) A s = spell x A (spell_tail y A s)
spell_first _ A s = Key CloseList ∷ s

-- Run i gs vs s fin: behind the values vs the tokens s are what is still to be read, with no value higher than i, and
-- then the values are fin
abbrev pub Run : ℕ → List Goal → List Value → List Token → List Value → Type 0
Run i [] vs s fin = (s ≡ []) × (fin ≡ vs)
Run i (Value' A l ∷ gs) vs s fin =
    (x : Value) × (r : List Token) × Has x A × (height x + l ≤ i) × (s ≡ spell x A r) × Run i gs (x ∷ vs) r fin
Run i (First A l ∷ gs) vs s fin =
    (x : Value) × (r : List Token) × Has x (ListOf A) × (height x + l ≤ i)
    × (s ≡ spell_first x A r) × Run i gs (x ∷ vs) r fin
Run i (Tail A l n ∷ gs) vs s fin =
    (x : Value) × (r : List Token) × Has x (ListOf A) × (height x + l ≤ i)
    × (s ≡ spell_tail x A r) × Run i gs (joined n vs x) r fin
Run i (Sign' k ∷ gs) vs s fin = (r : List Token) × (s ≡ Key k ∷ r) × Run i gs vs r fin
Run i (More As ∷ gs) vs s fin =
    (xs : List Value) × (r : List Token) × HaveTypes xs As × AreWithin i xs
    × (s ≡ spell_more xs As r) × Run i gs (pushed xs vs) r fin
Run i (Pair ∷ gs) vs s fin = Run i gs (paired vs) s fin
Run i (Node ∷ gs) vs s fin = Run i gs (noded vs) s fin
Run i (Just ∷ gs) vs s fin = Run i gs (justed vs) s fin

-- the tokens c lead from what is to be read to what is then to be read, where no value is too high
pub record Moves (gs : List Goal) (vs : List Value) (c : List Token) (gs' : List Goal) (vs' : List Value) : Type 0 where
  pub onward : (i : ℕ) (q : List Token) (fin : List Value) → Run i gs vs (c ++ q) fin → Run i gs' vs' q fin
  pub back : (i : ℕ) (q : List Token) (fin : List Value) → most_height ≤ i → Run i gs' vs' q fin → Run i gs vs (c ++ q) fin

-- the first token and any others, or nothing
abbrev pub seen : List Token → List Token → List Token
seen [] q = []
seen (t ∷ u) q = t ∷ q

-- the first of the tokens u cannot stand
abbrev pub Stops : Kind → List Goal → List Value → List Token → Type 0
Stops Shape gs vs u = (i : ℕ) (q : List Token) (fin : List Value) → Run i gs vs (seen u q) fin → ⊥
Stops TooDeep gs vs u =
    (t : Token) × (b : List Token) × (u ≡ t ∷ b)
    × ((i : ℕ) × (q : List Token) × (fin : List Value) × (most_height ≤ i) × Run i gs vs (t ∷ q) fin)
    × ((q : List Token) (fin : List Value) → Run most_height gs vs (t ∷ q) fin → ⊥)

-- a token of a text: its number has 64 bits
abbrev pub Sane : Token → Type 0
Sane (Number n) = FitsSigned w64 n
Sane t = Unit {0}

-- the least height of the values of a type
abbrev pub least : Type' → ℕ
least (PairOf A B) = suc (max (least A) (least B))
least _ = 1

-- the least height of those that begin with a token
abbrev pub begins : Type' → Token → Option ℕ
begins Integer (Number n) = Some 1
begins Boolean (Truth b) = Some 1
begins (PairOf A B) (Key Open) = Some (suc (max (least A) (least B)))
begins (ListOf A) (Key OpenList) = Some 1
begins (TreeOf A) (Key Leaf) = Some 1
begins (TreeOf A) (Key k.Node) = Some (suc (least A))
begins (OptionOf A) (Key Nothing) = Some 1
begins (OptionOf A) (Key k.Just) = Some (suc (least A))
begins _ _ = None

-- what is to be read behind the first token of a value
abbrev pub more_goals : Type' → ℕ → Token → List Goal → List Goal
more_goals (PairOf A B) l (Key Open) gs = Value' A (suc l) ∷ Sign' Comma ∷ Value' B (suc l) ∷ Sign' Close ∷ Pair ∷ gs
more_goals (ListOf A) l (Key OpenList) gs = First A l ∷ gs
more_goals (TreeOf A) l (Key k.Node) gs =
    Sign' Open ∷ Value' A (suc l) ∷ Sign' Comma ∷ Value' (TreeOf A)
    (suc l) ∷ Sign' Comma ∷ Value' (TreeOf A) (suc l) ∷ Sign' Close ∷ Node ∷ gs
more_goals (OptionOf A) l (Key k.Just) gs = Sign' Open ∷ Value' A (suc l) ∷ Sign' Close ∷ Just ∷ gs
more_goals A l t gs = gs

-- the value of a first token that is one
abbrev pub more_values : Token → List Value → List Value
more_values (Number n) vs = v.Number n ∷ vs
more_values (Truth b) vs = v.Truth b ∷ vs
more_values (Key Leaf) vs = v.Empty ∷ vs
more_values (Key Nothing) vs = v.Empty ∷ vs
more_values t vs = vs

-- some values of the types are not too high
abbrev pub AllFit : List Type' → Type 0
AllFit [] = Unit {0}
AllFit (A ∷ As) = (least A ≤ most_height) × AllFit As

-- the least values are not too high
abbrev pub Fits : Goal → Type 0
Fits (Value' A l) = least A + l ≤ most_height
Fits (First A l) = 1 + l ≤ most_height
Fits (Tail A l n) = least A + suc l ≤ most_height
Fits (More As) = AllFit As
Fits _ = Unit {0}

abbrev pub FitAll : List Goal → Type 0
FitAll [] = Unit {0}
FitAll (g ∷ gs) = Fits g × FitAll gs
