-- A program in which two parameters of one of its functions are exchanged.
use Rattle.std.specs.Prelude.{ℕ, zero, suc, List, [], ◌∷◌, map, cond, Option, Some, None}
use Rattle.std.specs.List.{slice_get}
use Rattle.std.specs.Str.{bytes_eq}
use Rattle.raml_syntax.specs.Tree as t
use Rattle.raml_syntax.specs.Tree.{Text, Function, Prog}
use Rattle.raml_syntax.specs.Read.{terms}

-- the list with another element at a place, where it has that
abbrev pub with_element : {A : Type 0} → ℕ → A → List A → List A
with_element k x [] = []
with_element zero x (y ∷ ys) = x ∷ ys
with_element (suc k) x (y ∷ ys) = y ∷ with_element k x ys

-- an element in front of a list, and the element that the list has at a place, exchanged
abbrev pub exchange_head : {A : Type 0} → A → Option A → ℕ → List A → List A
exchange_head x None k xs = x ∷ xs
exchange_head x (Some y) k xs = y ∷ with_element k x xs

-- the list with the elements at two places exchanged, where it has both and the first is before the second
abbrev pub exchange : {A : Type 0} → ℕ → ℕ → List A → List A
exchange zero zero xs = xs
exchange zero (suc j) [] = []
exchange zero (suc j) (x ∷ xs) = exchange_head x (slice_get xs j) j xs
exchange (suc i) zero xs = xs
exchange (suc i) (suc j) [] = []
exchange (suc i) (suc j) (x ∷ xs) = x ∷ exchange i j xs

-- two parameters of a function, by their places
pub record TwoParameters : Type 0 where
  pub function : Text
  pub first : ℕ
  pub second : ℕ

-- what stands for the parameters, in their order, where the function is the one of this name: exchanged if it is theirs
abbrev pub in_order : {A : Type 0} → TwoParameters → Text → List A → List A
in_order two f xs = cond (bytes_eq f two.function) (exchange two.first two.second xs) xs

abbrev mutual
  -- the expression with the arguments for both parameters exchanged in each call of the function
  pub exchanged : TwoParameters → t.Term → t.Term
  exchanged two (t.Number p n) = t.Number p n
  exchanged two (t.Truth p b) = t.Truth p b
  exchanged two (t.Nil p) = t.Nil p
  exchanged two (t.Leaf p) = t.Leaf p
  exchanged two (t.Nothing p) = t.Nothing p
  exchanged two (t.Var p x) = t.Var p x
  exchanged two (t.Arith p op a b) = t.Arith p op (exchanged two a) (exchanged two b)
  exchanged two (t.Compare p op a b) = t.Compare p op (exchanged two a) (exchanged two b)
  exchanged two (t.Not p a) = t.Not p (exchanged two a)
  exchanged two (t.Pair p a b) = t.Pair p (exchanged two a) (exchanged two b)
  exchanged two (t.Cons p a b) = t.Cons p (exchanged two a) (exchanged two b)
  exchanged two (t.Node p a b c) = t.Node p (exchanged two a) (exchanged two b) (exchanged two c)
  exchanged two (t.Just p a) = t.Just p (exchanged two a)
  exchanged two (t.Call p f args) = t.Call p f (terms (in_order two f (all_exchanged two args)))
  exchanged two (t.Let p x a b) = t.Let p x (exchanged two a) (exchanged two b)
  exchanged two (t.LetPair p x y a b) = t.LetPair p x y (exchanged two a) (exchanged two b)
  exchanged two (t.If p c a b) = t.If p (exchanged two c) (exchanged two a) (exchanged two b)
  exchanged two (t.MatchList p c a x y b) = t.MatchList p (exchanged two c) (exchanged two a) x y (exchanged two b)
  exchanged two (t.MatchTree p c a x y z b) = t.MatchTree p (exchanged two c) (exchanged two a) x y z (exchanged two b)
  exchanged two (t.MatchOption p c a x b) = t.MatchOption p (exchanged two c) (exchanged two a) x (exchanged two b)
  exchanged two (t.Tick p k a) = t.Tick p k (exchanged two a)
  exchanged two (t.Typed p a A) = t.Typed p (exchanged two a) A

  pub all_exchanged : TwoParameters → t.Terms → List t.Term
  all_exchanged two t.None = []
  all_exchanged two (t.More a rest) = exchanged two a ∷ all_exchanged two rest

-- both parameters are exchanged in the header of their function, and the arguments for them in all bodies
abbrev pub exchanged_function : TwoParameters → Function → Function
exchanged_function two g = record {
  at = g.at;
  name = g.name;
  params = in_order two g.name g.params;
  result = g.result;
  body = exchanged two g.body;
}

abbrev pub exchanged_program : TwoParameters → Prog → Prog
exchanged_program two P = map (exchanged_function two) P
