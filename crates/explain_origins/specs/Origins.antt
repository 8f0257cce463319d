-- For which expressions of the source the forms of its normal form stand.
use Rattle.std.specs.Prelude.{Option, Some, None}
use Rattle.raml_syntax.specs.Tree as t
use Rattle.raml_syntax.specs.Tree.{Text}
use Rattle.normal_spec.specs.One.{plain}

-- The expression for which a form stands, and the origins of the forms below it: of none, of one or of two.
pub data Origins : Type 0 where
  Ends : t.Term → Origins
  Goes : t.Term → Origins → Origins
  Forks : t.Term → Origins → Origins → Origins

-- the expression for which the outermost form stands
abbrev pub source : Origins → t.Term
source (Ends e) = e
source (Goes e o) = e
source (Forks e o rest) = e

-- An operand that is no variable is bound by a Let, which stands for it; the rest follows.
abbrev pub bound_unless : Option Text → t.Term → Origins → Origins → Origins
bound_unless (Some x) e o rest = rest
bound_unless None e o rest = Forks e o rest

abbrev pub before : t.Term → Origins → Origins → Origins
before e o rest = bound_unless (plain e) e o rest

-- The origins of the form of an expression: first its operands, from left to right, and then what stands for it itself. What is
-- annotated with a type stands for itself.
abbrev mutual
  pub origins : t.Term → Origins
  origins (t.Number p n) = Ends (t.Number p n)
  origins (t.Truth p b) = Ends (t.Truth p b)
  origins (t.Nil p) = Ends (t.Nil p)
  origins (t.Leaf p) = Ends (t.Leaf p)
  origins (t.Nothing p) = Ends (t.Nothing p)
  origins (t.Var p x) = Ends (t.Var p x)
  origins (t.Arith p op a b) = before a (origins a) (before b (origins b) (Ends (t.Arith p op a b)))
  origins (t.Compare p op a b) = before a (origins a) (before b (origins b) (Ends (t.Compare p op a b)))
  origins (t.Not p a) = before a (origins a) (Ends (t.Not p a))
  origins (t.Pair p a b) = before a (origins a) (before b (origins b) (Ends (t.Pair p a b)))
  origins (t.Cons p a b) = before a (origins a) (before b (origins b) (Ends (t.Cons p a b)))
  origins (t.Node p a b c) = before a (origins a) (before b (origins b) (before c (origins c) (Ends (t.Node p a b c))))
  origins (t.Just p a) = before a (origins a) (Ends (t.Just p a))
  origins (t.Call p f args) = before_all args (Ends (t.Call p f args))
  origins (t.Let p x a b) = Forks (t.Let p x a b) (origins a) (origins b)
  origins (t.LetPair p x y a b) = before a (origins a) (Goes (t.LetPair p x y a b) (origins b))
  origins (t.If p c a b) = before c (origins c) (Forks (t.If p c a b) (origins a) (origins b))
  origins (t.MatchList p c a x y b) = before c (origins c) (Forks (t.MatchList p c a x y b) (origins a) (origins b))
  origins (t.MatchTree p c a x y z b) = before c (origins c) (Forks (t.MatchTree p c a x y z b) (origins a) (origins b))
  origins (t.MatchOption p c a x b) = before c (origins c) (Forks (t.MatchOption p c a x b) (origins a) (origins b))
  origins (t.Tick p n a) = Goes (t.Tick p n a) (origins a)
  origins (t.Typed p a A) = origins a

  pub before_all : t.Terms → Origins → Origins
  before_all t.None rest = rest
  before_all (t.More a args) rest = before a (origins a) (before_all args rest)
