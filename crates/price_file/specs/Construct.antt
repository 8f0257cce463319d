-- The constructs of the language, their names in a table of prices, and which one an expression is.
use Rattle.std.specs.Prelude.{ℕ, List, [], ◌∷◌, Option, Some, None, codes}
use Rattle.raml_syntax.specs.Tree as t
use Rattle.raml_syntax.specs.Tree.{Text}
pub use Rattle.price_file.specs.declared.construct.Construct.{Construct}
pub use Rattle.price_file.specs.declared.construct.Construct.TheVariants.{Number, Truth, Var, Nil, Leaf, Nothing, Arith, Compare, Not, Pair}
pub use Rattle.price_file.specs.declared.construct.Construct.TheVariants.{Cons, Node, Just, Call, Let, If, Match, Tick}

-- prices, in ticks
abbrev pub Prices : Type 0
Prices = Construct → ℕ

abbrev pub name_of : Construct → Text
name_of Number = codes "number"
name_of Truth = codes "truth"
name_of Var = codes "var"
name_of Nil = codes "nil"
name_of Leaf = codes "leaf"
name_of Nothing = codes "none"
name_of Arith = codes "arith"
name_of Compare = codes "compare"
name_of Not = codes "not"
name_of Pair = codes "pair"
name_of Cons = codes "cons"
name_of Node = codes "node"
name_of Just = codes "some"
name_of Call = codes "call"
name_of Let = codes "let"
name_of If = codes "if"
name_of Match = codes "match"
name_of Tick = codes "tick"

-- all of them, in the order in which they are declared
abbrev pub constructs : List Construct
constructs =
    Number ∷ Truth ∷ Var ∷ Nil ∷ Leaf ∷ Nothing ∷ Arith ∷ Compare ∷ Not ∷ Pair ∷ Cons ∷ Node ∷ Just ∷ Call ∷ Let ∷ If ∷ Match
    ∷ Tick ∷ []

-- the place of a construct among them, from 0
abbrev pub place : Construct → ℕ
place Number = 0
place Truth = 1
place Var = 2
place Nil = 3
place Leaf = 4
place Nothing = 5
place Arith = 6
place Compare = 7
place Not = 8
place Pair = 9
place Cons = 10
place Node = 11
place Just = 12
place Call = 13
place Let = 14
place If = 15
place Match = 16
place Tick = 17

-- which construct an expression is: both kinds of let are one, and all kinds of match; an annotation is none
abbrev pub construct_of : t.Term → Option Construct
construct_of (t.Number p n) = Some Number
construct_of (t.Truth p b) = Some Truth
construct_of (t.Nil p) = Some Nil
construct_of (t.Leaf p) = Some Leaf
construct_of (t.Nothing p) = Some Nothing
construct_of (t.Var p x) = Some Var
construct_of (t.Arith p op a b) = Some Arith
construct_of (t.Compare p op a b) = Some Compare
construct_of (t.Not p a) = Some Not
construct_of (t.Pair p a b) = Some Pair
construct_of (t.Cons p a b) = Some Cons
construct_of (t.Node p a b c) = Some Node
construct_of (t.Just p a) = Some Just
construct_of (t.Call p f args) = Some Call
construct_of (t.Let p x a b) = Some Let
construct_of (t.LetPair p x y a b) = Some Let
construct_of (t.If p c a b) = Some If
construct_of (t.MatchList p c a x y b) = Some Match
construct_of (t.MatchTree p c a x y z b) = Some Match
construct_of (t.MatchOption p c a x b) = Some Match
construct_of (t.Tick p k a) = Some Tick
construct_of (t.Typed p a A) = None
