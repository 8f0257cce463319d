-- Small programs with their later uses, worked out by hand.
use Rattle.std.specs.Prelude.{◌≡◌, pos, ℕ, [], ◌∷◌, codes}
use Rattle.raml_syntax.specs.declared.tree.CompareOp.TheVariants.{Equal}
use Rattle.raml_syntax.specs.Tree as t
use Rattle.raml_syntax.specs.Tree.{Text, Type', Integer, Boolean, PairOf, ListOf, TreeOf, OptionOf, Bound, Prog}
use Rattle.explain_edits.specs.Edits.{with_edits}
use Rattle.explain_uses.specs.Uses.{LaterUse, program_uses}
use Rattle.explain_uses.specs.Emptied.{typed_empty, edit}

-- names
abbrev f : Text
f = codes "f"

abbrev g : Text
g = codes "g"

abbrev x : Text
x = codes "x"

abbrev n : Text
n = codes "n"

abbrev h : Text
h = codes "h"

abbrev l : Text
l = codes "l"

abbrev r : Text
r = codes "r"

abbrev named : Text → Bound
named a = record { at = 0; name = a }

abbrev ints : Type'
ints = ListOf Integer

-- x at a place
abbrev var : ℕ → t.Term
var p = t.Var p x

-- g(x)
abbrev called : ℕ → t.Term
called p = t.Call 0 g (t.More (var p) t.None)

abbrev is_zero : t.Term → t.Term
is_zero e = t.Compare 0 Equal e (t.Number 0 (pos 0))

-- fun f (x : A, n : int) : A = body
abbrev program : Type' → t.Term → Prog
program A body = record {
  at = 0;
  name = f;
  params = record { at = 0; name = x; type = A } ∷ record { at = 0; name = n; type = Integer } ∷ [];
  result = A;
  body = body;
} ∷ []

-- match x with nil -> nil | h :: x -> x
abbrev own_name : ℕ → ℕ → t.Term
own_name p q = t.MatchList 0 (var p) (t.Nil 0) (named h) (named x) (var q)

-- a use of x behind its first one
abbrev again : ℕ → ℕ → Type' → LaterUse
again p q A = record { at = p; first = q; function = f; variable = x; type = A }

pub record Examples : Type 0 where
  -- if n = 0 then x else x: one of two branches is evaluated
  pub branches : program_uses (program ints (t.If 0 (is_zero (t.Var 1 n)) (var 2) (var 3))) ≡ []
  -- if g(x) = 0 then x else x: a condition comes before both
  pub condition : program_uses (program ints (t.If 0 (is_zero (called 1)) (var 2) (var 3))) ≡ again 2 1 ints ∷ again 3 1 ints ∷ []
  -- a name that is bound again is another variable
  pub bound_by_match : program_uses (program ints (own_name 1 2)) ≡ []
  -- let l = x in let x = (nil : int list) in x
  pub bound_by_let : program_uses (program ints (t.Let 0 (named l) (var 1) (t.Let 0 (named x) (t.Typed 0 (t.Nil 0) ints) (var 2)))) ≡ []
  -- and is the first one again behind
  pub behind : program_uses (program ints (t.Pair 0 (own_name 1 2) (var 3))) ≡ again 3 1 ints ∷ []
  -- let l = g(x) in match x with nil -> n | h :: r -> n: a subject may be a later use
  pub subject : program_uses (program ints
      (t.Let 0 (named l) (called 1) (t.MatchList 0 (var 2) (t.Var 3 n) (named h) (named r) (t.Var 4 n)))) ≡ again 2 1 ints ∷ []
  -- what has no size is not told, and a pair has the size of its parts
  pub plain_pair : program_uses (program (PairOf Integer Boolean) (t.Pair 0 (var 1) (var 2))) ≡ []
  pub sized_pair : program_uses (program (PairOf Integer ints) (t.Pair 0 (var 1) (var 2))) ≡ again 2 1 (PairOf Integer ints) ∷ []
  -- match x with leaf -> (nil, nil) | node(h, l, r) -> (h, h): an element of a tree has a size of its own
  pub element : program_uses (program (TreeOf ints) (t.MatchTree 0 (var 1) (t.Pair 0 (t.Nil 0) (t.Nil 0)) (named h) (named l) (named r)
      (t.Pair 0 (t.Var 2 h) (t.Var 3 h)))) ≡ record { at = 3; first = 2; function = f; variable = h; type = ints } ∷ []
  -- ((x : int list), tick 1 in x)
  pub below : program_uses (program ints (t.Pair 0 (t.Typed 0 (var 1) ints) (t.Tick 0 1 (var 2)))) ≡ again 2 1 ints ∷ []
  -- node(1, x, x)
  pub node : program_uses (program (TreeOf Integer) (t.Node 0 (t.Number 0 (pos 1)) (var 1) (var 2))) ≡ again 2 1 (TreeOf Integer) ∷ []
  -- (x, (x, x)): all later uses have one first use
  pub first_of_three : program_uses (program (OptionOf Integer) (t.Pair 0 (var 1) (t.Pair 0 (var 2) (var 3))))
      ≡ again 2 1 (OptionOf Integer) ∷ again 3 1 (OptionOf Integer) ∷ []
  -- empty values
  pub pair : typed_empty (PairOf Integer ints) ≡ codes "((0, nil) : int * int list)"
  pub tree : typed_empty (TreeOf (PairOf Integer Boolean)) ≡ codes "(leaf : (int * bool) tree)"
  pub text : with_edits (codes "g(x, x) (* x *)") (edit (again 5 2 (OptionOf Boolean)) ∷ []) ≡ codes "g(x, (none : bool option)) (* x *)"
