-- The nodes of expressions, and the limits that programs are within.
use Rattle.std.specs.Prelude.{◌≤◌, ℕ, length, ◌+◌, FitsSigned, [], ◌∷◌}
use Rattle.std.specs.Int.{w64}
use Rattle.std.specs.List.{All}
use Rattle.raml_syntax.specs.Tree as t
use Rattle.raml_syntax.specs.Tree.{Bound, Function, Prog}

-- the number of nodes, an annotation among them
abbrev mutual
  pub nodes : t.Term → ℕ
  nodes (t.Arith p op a b) = 1 + nodes a + nodes b
  nodes (t.Compare p op a b) = 1 + nodes a + nodes b
  nodes (t.Not p a) = 1 + nodes a
  nodes (t.Pair p a b) = 1 + nodes a + nodes b
  nodes (t.Cons p a b) = 1 + nodes a + nodes b
  nodes (t.Node p a b c) = 1 + nodes a + nodes b + nodes c
  nodes (t.Just p a) = 1 + nodes a
  nodes (t.Call p f args) = 1 + nodes_of_all args
  nodes (t.Let p x a b) = 1 + nodes a + nodes b
  nodes (t.LetPair p x y a b) = 1 + nodes a + nodes b
  nodes (t.If p c a b) = 1 + nodes c + nodes a + nodes b
  nodes (t.MatchList p c a x y b) = 1 + nodes c + nodes a + nodes b
  nodes (t.MatchTree p c a x y z b) = 1 + nodes c + nodes a + nodes b
  nodes (t.MatchOption p c a x b) = 1 + nodes c + nodes a + nodes b
  nodes (t.Tick p k a) = 1 + nodes a
  nodes (t.Typed p a A) = 1 + nodes a
  nodes _ = 1

  pub nodes_of_all : t.Terms → ℕ
  nodes_of_all t.None = 0
  nodes_of_all (t.More a rest) = nodes a + nodes_of_all rest

abbrev pub program_nodes : Prog → ℕ
program_nodes [] = 0
program_nodes (g ∷ P) = nodes g.body + program_nodes P

-- the expression and each expression in it are as Q says
module _ (Q : t.Term → Type 0) where
  abbrev mutual
    pub AllNodes : t.Term → Type 0
    AllNodes (t.Number p n) = Q (t.Number p n)
    AllNodes (t.Truth p b) = Q (t.Truth p b)
    AllNodes (t.Nil p) = Q (t.Nil p)
    AllNodes (t.Nothing p) = Q (t.Nothing p)
    AllNodes (t.Leaf p) = Q (t.Leaf p)
    AllNodes (t.Var p x) = Q (t.Var p x)
    AllNodes (t.Arith p op a b) = Q (t.Arith p op a b) × AllNodes a × AllNodes b
    AllNodes (t.Compare p op a b) = Q (t.Compare p op a b) × AllNodes a × AllNodes b
    AllNodes (t.Not p a) = Q (t.Not p a) × AllNodes a
    AllNodes (t.Pair p a b) = Q (t.Pair p a b) × AllNodes a × AllNodes b
    AllNodes (t.Cons p a b) = Q (t.Cons p a b) × AllNodes a × AllNodes b
    AllNodes (t.Node p a b c) = Q (t.Node p a b c) × AllNodes a × AllNodes b × AllNodes c
    AllNodes (t.Just p a) = Q (t.Just p a) × AllNodes a
    AllNodes (t.Call p f args) = Q (t.Call p f args) × AllOf args
    AllNodes (t.Let p x a b) = Q (t.Let p x a b) × AllNodes a × AllNodes b
    AllNodes (t.LetPair p x y a b) = Q (t.LetPair p x y a b) × AllNodes a × AllNodes b
    AllNodes (t.If p c a b) = Q (t.If p c a b) × AllNodes c × AllNodes a × AllNodes b
    AllNodes (t.MatchList p c a x y b) = Q (t.MatchList p c a x y b) × AllNodes c × AllNodes a × AllNodes b
    AllNodes (t.MatchTree p c a x y z b) = Q (t.MatchTree p c a x y z b) × AllNodes c × AllNodes a × AllNodes b
    AllNodes (t.MatchOption p c a x b) = Q (t.MatchOption p c a x b) × AllNodes c × AllNodes a × AllNodes b
    AllNodes (t.Tick p k a) = Q (t.Tick p k a) × AllNodes a
    AllNodes (t.Typed p a A) = Q (t.Typed p a A) × AllNodes a

    pub AllOf : t.Terms → Type 0
    AllOf t.None = Unit {0}
    AllOf (t.More a rest) = AllNodes a × AllOf rest

-- a number has 64 bits, signed, as every number of the code's trees has
abbrev pub NumberFits : t.Term → Type 0
NumberFits (t.Number p n) = FitsSigned w64 n
NumberFits _ = Unit {0}

-- a tick is of 1000000 at most
abbrev pub TickFits : t.Term → Type 0
TickFits (t.Tick p k a) = k ≤ 1000000
TickFits _ = Unit {0}

abbrev pub count : t.Terms → ℕ
count t.None = 0
count (t.More a rest) = 1 + count rest

-- a call has 8 arguments at most
abbrev pub FewArguments : t.Term → Type 0
FewArguments (t.Call p f args) = count args ≤ 8
FewArguments _ = Unit {0}

-- the limits of every program that is read
pub record WithinLimits (P : Prog) : Type 0 where
  pub functions : length P ≤ 256
  pub parameters : All (λ (g : Function). length g.params ≤ 8) P
  pub arguments : All (λ (g : Function). AllNodes FewArguments g.body) P
  pub numbers : All (λ (g : Function). AllNodes NumberFits g.body) P
  pub ticks : All (λ (g : Function). AllNodes TickFits g.body) P
