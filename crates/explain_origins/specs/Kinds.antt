-- Kinds of expressions, with their numbers, truths and operators.
use Rattle.std.specs.Prelude.{ℕ, ℤ, Bool}
use Rattle.raml_syntax.specs.Tree as t
use Rattle.raml_syntax.specs.declared.tree.ArithOp.{ArithOp}
use Rattle.raml_syntax.specs.declared.tree.CompareOp.{CompareOp}

pub data Kind : Type 0 where
  Number : ℤ → Kind
  Truth : Bool → Kind
  Nil : Kind
  Leaf : Kind
  Nothing : Kind
  Var : Kind
  Arith : ArithOp → Kind
  Compare : CompareOp → Kind
  Not : Kind
  Pair : Kind
  Cons : Kind
  Node : Kind
  Just : Kind
  Call : Kind
  Let : Kind
  LetPair : Kind
  If : Kind
  MatchList : Kind
  MatchTree : Kind
  MatchOption : Kind
  Tick : ℕ → Kind

-- a type behind an expression aside
abbrev pub kind_of : t.Term → Kind
kind_of (t.Number p n) = Number n
kind_of (t.Truth p b) = Truth b
kind_of (t.Nil p) = Nil
kind_of (t.Leaf p) = Leaf
kind_of (t.Nothing p) = Nothing
kind_of (t.Var p x) = Var
kind_of (t.Arith p op a b) = Arith op
kind_of (t.Compare p op a b) = Compare op
kind_of (t.Not p a) = Not
kind_of (t.Pair p a b) = Pair
kind_of (t.Cons p a b) = Cons
kind_of (t.Node p a b c) = Node
kind_of (t.Just p a) = Just
kind_of (t.Call p f args) = Call
kind_of (t.Let p x a b) = Let
kind_of (t.LetPair p x y a b) = LetPair
kind_of (t.If p c a b) = If
kind_of (t.MatchList p c a x y b) = MatchList
kind_of (t.MatchTree p c a x y z b) = MatchTree
kind_of (t.MatchOption p c a x b) = MatchOption
kind_of (t.Tick p n a) = Tick n
kind_of (t.Typed p a A) = kind_of a
