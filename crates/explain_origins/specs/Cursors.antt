-- The origins of an expression, operand by operand.
use Rattle.std.specs.Prelude.{ℕ, List, [], ◌∷◌, drop}
use Rattle.raml_syntax.specs.Tree as t
use Rattle.explain_origins.specs.Origins.{Origins, Ends, Goes, Forks, before, origins}

-- the expression without the types behind it
abbrev pub bare : t.Term → t.Term
bare (t.Typed p a A) = bare a
bare e = e

abbrev pub listed : t.Terms → List t.Term
listed t.None = []
listed (t.More a rest) = a ∷ listed rest

-- the operands, from left to right
abbrev pub operands : t.Term → List t.Term
operands (t.Arith p op a b) = a ∷ b ∷ []
operands (t.Compare p op a b) = a ∷ b ∷ []
operands (t.Not p a) = a ∷ []
operands (t.Pair p a b) = a ∷ b ∷ []
operands (t.Cons p a b) = a ∷ b ∷ []
operands (t.Node p a b c) = a ∷ b ∷ c ∷ []
operands (t.Just p a) = a ∷ []
operands (t.Call p f args) = listed args
operands (t.LetPair p x y a b) = a ∷ []
operands (t.If p c a b) = c ∷ []
operands (t.MatchList p c a x y b) = c ∷ []
operands (t.MatchTree p c a x y z b) = c ∷ []
operands (t.MatchOption p c a x b) = c ∷ []
operands _ = []

-- the origins of the form that stands for the expression itself
abbrev pub own : t.Term → Origins
own (t.Let p x a b) = Forks (t.Let p x a b) (origins a) (origins b)
own (t.LetPair p x y a b) = Goes (t.LetPair p x y a b) (origins b)
own (t.If p c a b) = Forks (t.If p c a b) (origins a) (origins b)
own (t.MatchList p c a x y b) = Forks (t.MatchList p c a x y b) (origins a) (origins b)
own (t.MatchTree p c a x y z b) = Forks (t.MatchTree p c a x y z b) (origins a) (origins b)
own (t.MatchOption p c a x b) = Forks (t.MatchOption p c a x b) (origins a) (origins b)
own (t.Tick p n a) = Goes (t.Tick p n a) (origins a)
own e = Ends e

abbrev pub before_each : List t.Term → Origins → Origins
before_each [] o = o
before_each (a ∷ rest) o = before a (origins a) (before_each rest o)

-- what is left where so many operands are bound
abbrev pub left : t.Term → ℕ → Origins
left e k = before_each (drop k (operands e)) (own e)
