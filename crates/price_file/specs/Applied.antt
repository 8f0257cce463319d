-- A program in which prices are written out as ticks.
use Rattle.std.specs.Prelude.{ℕ, cond, nat_eq, map}
use Rattle.raml_syntax.specs.Tree as t
use Rattle.raml_syntax.specs.Tree.{Function, Prog}
use Rattle.price_file.specs.Construct as c
use Rattle.price_file.specs.Construct.{Construct, Prices}

-- the expression behind so many ticks, at this place; as it is where there are none
abbrev pub behind_ticks : ℕ → ℕ → t.Term → t.Term
behind_ticks k p e = cond (nat_eq k 0) e (t.Tick p k e)

module _ (prices : Prices) where
  abbrev mutual
    -- each node that has a price stands behind it, at its own place; a type annotation is no node
    pub applied : t.Term → t.Term
    applied (t.Number p n) = behind_ticks (prices c.Number) p (t.Number p n)
    applied (t.Truth p b) = behind_ticks (prices c.Truth) p (t.Truth p b)
    applied (t.Nil p) = behind_ticks (prices c.Nil) p (t.Nil p)
    applied (t.Leaf p) = behind_ticks (prices c.Leaf) p (t.Leaf p)
    applied (t.Nothing p) = behind_ticks (prices c.Nothing) p (t.Nothing p)
    applied (t.Var p x) = behind_ticks (prices c.Var) p (t.Var p x)
    applied (t.Arith p op a b) = behind_ticks (prices c.Arith) p (t.Arith p op (applied a) (applied b))
    applied (t.Compare p op a b) = behind_ticks (prices c.Compare) p (t.Compare p op (applied a) (applied b))
    applied (t.Not p a) = behind_ticks (prices c.Not) p (t.Not p (applied a))
    applied (t.Pair p a b) = behind_ticks (prices c.Pair) p (t.Pair p (applied a) (applied b))
    applied (t.Cons p a b) = behind_ticks (prices c.Cons) p (t.Cons p (applied a) (applied b))
    applied (t.Node p a b d) = behind_ticks (prices c.Node) p (t.Node p (applied a) (applied b) (applied d))
    applied (t.Just p a) = behind_ticks (prices c.Just) p (t.Just p (applied a))
    applied (t.Call p f args) = behind_ticks (prices c.Call) p (t.Call p f (applied_all args))
    applied (t.Let p x a b) = behind_ticks (prices c.Let) p (t.Let p x (applied a) (applied b))
    applied (t.LetPair p x y a b) = behind_ticks (prices c.Let) p (t.LetPair p x y (applied a) (applied b))
    applied (t.If p d a b) = behind_ticks (prices c.If) p (t.If p (applied d) (applied a) (applied b))
    applied (t.MatchList p d a x y b) = behind_ticks (prices c.Match) p (t.MatchList p (applied d) (applied a) x y (applied b))
    applied (t.MatchTree p d a x y z b) = behind_ticks (prices c.Match) p (t.MatchTree p (applied d) (applied a) x y z (applied b))
    applied (t.MatchOption p d a x b) = behind_ticks (prices c.Match) p (t.MatchOption p (applied d) (applied a) x (applied b))
    applied (t.Tick p k a) = behind_ticks (prices c.Tick) p (t.Tick p k (applied a))
    applied (t.Typed p a A) = t.Typed p (applied a) A

    pub applied_all : t.Terms → t.Terms
    applied_all t.None = t.None
    applied_all (t.More a rest) = t.More (applied a) (applied_all rest)

  abbrev pub applied_function : Function → Function
  applied_function g = record { at = g.at; name = g.name; params = g.params; result = g.result; body = applied g.body }

  abbrev pub applied_program : Prog → Prog
  applied_program P = map applied_function P
