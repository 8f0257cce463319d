-- Programs as plain data: what the definitions speak of.
use Rattle.std.specs.Prelude.{ℕ, ℤ, List, Bool}
pub use Rattle.raml_syntax.specs.declared.tree.ArithOp.{ArithOp}
pub use Rattle.raml_syntax.specs.declared.tree.CompareOp.{CompareOp}

-- the bytes of a text
abbrev pub Text : Type 0
Text = List ℕ

pub data Type' : Type 0 where
  Integer : Type'
  Boolean : Type'
  PairOf : Type' → Type' → Type'
  ListOf : Type' → Type'
  TreeOf : Type' → Type'
  OptionOf : Type' → Type'

-- a name that is bound, and the place where it stands
pub record Bound : Type 0 where
  pub at : ℕ
  pub name : Text

-- an expression; its place stands first
mutual
  pub data Term : Type 0 where
    Number : ℕ → ℤ → Term
    Truth : ℕ → Bool → Term
    Nil : ℕ → Term
    Leaf : ℕ → Term
    Nothing : ℕ → Term
    Var : ℕ → Text → Term
    Arith : ℕ → ArithOp → Term → Term → Term
    Compare : ℕ → CompareOp → Term → Term → Term
    Not : ℕ → Term → Term
    Pair : ℕ → Term → Term → Term
    Cons : ℕ → Term → Term → Term
    Node : ℕ → Term → Term → Term → Term
    Just : ℕ → Term → Term
    Call : ℕ → Text → Terms → Term
    Let : ℕ → Bound → Term → Term → Term
    LetPair : ℕ → Bound → Bound → Term → Term → Term
    If : ℕ → Term → Term → Term → Term
    MatchList : ℕ → Term → Term → Bound → Bound → Term → Term
    MatchTree : ℕ → Term → Term → Bound → Bound → Bound → Term → Term
    MatchOption : ℕ → Term → Term → Bound → Term → Term
    Tick : ℕ → ℕ → Term → Term
    Typed : ℕ → Term → Type' → Term

  pub data Terms : Type 0 where
    None : Terms
    More : Term → Terms → Terms

pub record Parameter : Type 0 where
  pub at : ℕ
  pub name : Text
  pub type : Type'

pub record Function : Type 0 where
  pub at : ℕ
  pub name : Text
  pub params : List Parameter
  pub result : Type'
  pub body : Term

-- the functions in the order of the source
abbrev pub Prog : Type 0
Prog = List Function
