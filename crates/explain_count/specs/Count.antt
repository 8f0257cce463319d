-- The count program of a group: its ticks are the calls of functions of the group.
use Rattle.std.specs.Prelude.{ℕ, suc, List, [], ◌∷◌, Bool, cond}
use Rattle.raml_syntax.specs.Tree as t
use Rattle.raml_syntax.specs.Tree.{Function, Prog}
use Rattle.explain_rounds.specs.Calls.{is_in}

abbrev mutual
  -- the expression without its ticks
  pub without_ticks : t.Term → t.Term
  without_ticks (t.Number p n) = t.Number p n
  without_ticks (t.Truth p b) = t.Truth p b
  without_ticks (t.Nil p) = t.Nil p
  without_ticks (t.Leaf p) = t.Leaf p
  without_ticks (t.Nothing p) = t.Nothing p
  without_ticks (t.Var p x) = t.Var p x
  without_ticks (t.Arith p op a b) = t.Arith p op (without_ticks a) (without_ticks b)
  without_ticks (t.Compare p op a b) = t.Compare p op (without_ticks a) (without_ticks b)
  without_ticks (t.Not p a) = t.Not p (without_ticks a)
  without_ticks (t.Pair p a b) = t.Pair p (without_ticks a) (without_ticks b)
  without_ticks (t.Cons p a b) = t.Cons p (without_ticks a) (without_ticks b)
  without_ticks (t.Node p a b c) = t.Node p (without_ticks a) (without_ticks b) (without_ticks c)
  without_ticks (t.Just p a) = t.Just p (without_ticks a)
  without_ticks (t.Call p f args) = t.Call p f (all_without_ticks args)
  without_ticks (t.Let p x a b) = t.Let p x (without_ticks a) (without_ticks b)
  without_ticks (t.LetPair p x y a b) = t.LetPair p x y (without_ticks a) (without_ticks b)
  without_ticks (t.If p c a b) = t.If p (without_ticks c) (without_ticks a) (without_ticks b)
  without_ticks (t.MatchList p c a x y b) = t.MatchList p (without_ticks c) (without_ticks a) x y (without_ticks b)
  without_ticks (t.MatchTree p c a x y z b) = t.MatchTree p (without_ticks c) (without_ticks a) x y z (without_ticks b)
  without_ticks (t.MatchOption p c a x b) = t.MatchOption p (without_ticks c) (without_ticks a) x (without_ticks b)
  without_ticks (t.Tick p k a) = without_ticks a
  without_ticks (t.Typed p a A) = t.Typed p (without_ticks a) A

  pub all_without_ticks : t.Terms → t.Terms
  all_without_ticks t.None = t.None
  all_without_ticks (t.More a rest) = t.More (without_ticks a) (all_without_ticks rest)

-- the function with another body
abbrev pub with_body : Function → t.Term → Function
with_body g body = record { at = g.at; name = g.name; params = g.params; result = g.result; body = body }

-- the body without its ticks, and where the function is of the group behind one tick, which has the function's place
abbrev pub counting_body : Bool → Function → t.Term
counting_body is_counted g = cond is_counted (t.Tick g.at 1 (without_ticks g.body)) (without_ticks g.body)

abbrev pub counting : Bool → Function → Function
counting is_counted g = with_body g (counting_body is_counted g)

-- the functions from a place on
abbrev pub counting_from : ℕ → List ℕ → Prog → Prog
counting_from k group [] = []
counting_from k group (g ∷ P) = counting (is_in k group) g ∷ counting_from (suc k) group P

abbrev pub count_program : List ℕ → Prog → Prog
count_program = counting_from 0
