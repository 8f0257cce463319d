-- The types of small expressions and programs, their first faults, and texts of types, worked out by hand.
use Rattle.std.specs.Prelude.{◌≡◌, ℕ, pos, List, [], ◌∷◌, true, Ok, Err, codes}
use Rattle.raml_syntax.specs.Tree as t
use Rattle.raml_syntax.specs.Tree.{Text, Type', Integer, Boolean, PairOf, ListOf, TreeOf, OptionOf, Bound, Parameter, Function, Prog}
use Rattle.raml_syntax.specs.Types.{Typed}
use Rattle.raml_syntax.specs.declared.tree.ArithOp.TheVariants.{Add}
use Rattle.simple_types.specs.Fault.{Is, SomeList, SomeTree, SomePair, Twice, Wanted, NeedsType, Arity}
use Rattle.simple_types.specs.Text.{type_text, kind_text}
use Rattle.simple_types.specs.Walk.{finds, checks, walk_program}

abbrev pub x : Text
x = 120 ∷ []

abbrev pub y : Text
y = 121 ∷ []

abbrev pub f : Text
f = 102 ∷ []

abbrev pub bound : ℕ → Text → Bound
bound p a = record { at = p; name = a }

abbrev pub par : ℕ → Text → Type' → Parameter
par p a A = record { at = p; name = a; type = A }

abbrev pub ints : Type'
ints = ListOf Integer

-- match x with nil -> none | y :: x -> some(y), the `none` at 17
abbrev pub first : t.Term
first = t.MatchList 0 (t.Var 6 x) (t.Nothing 17) (bound 24 y) (bound 29 x) (t.Just 34 (t.Var 39 y))

-- let (x, y) = (1, true) in (y, x :: nil)
abbrev pub swapped : t.Term
swapped =
    t.LetPair 0 (bound 5 x) (bound 8 y) (t.Pair 13 (t.Number 14 (pos 1)) (t.Truth 17 true))
    (t.Pair 26 (t.Var 27 y) (t.Cons 30 (t.Var 30 x) (t.Nil 35)))

-- fun f (x : int list) : int option = and the body
abbrev pub function : ℕ → List Parameter → Type' → t.Term → Function
function p params A body = record { at = p; name = f; params = params; result = A; body = body }

abbrev pub head : Function
head = function 0 (par 7 x ints ∷ []) (OptionOf Integer) first

-- fun f (x : int) : int = true
abbrev pub wrong : Function
wrong = function 0 (par 7 x Integer ∷ []) Integer (t.Truth 24 true)

-- fun f (x : int, x : int) : int = x, at 30
abbrev pub twice : Function
twice = function 30 (par 37 x Integer ∷ par 46 x Integer ∷ []) Integer (t.Var 63 x)

-- the same with another name
abbrev pub other : Function
other = record { at = 30; name = y; params = twice.params; result = Integer; body = twice.body }

pub record FoundTypes : Type 0 where
  -- no type is found for `none`, but it is checked; the newest variable of a name is meant
  pub checked : checks [] ((x, ints) ∷ []) first (OptionOf Integer) ≡ Ok (OptionOf Integer)
  pub not_found : finds [] ((x, ints) ∷ []) first ≡ Err (NeedsType 17)
  pub found : finds [] [] swapped ≡ Ok (PairOf Boolean ints)
  pub typed : Typed (head ∷ [])
  -- true + y: the first from the left
  pub left : finds [] [] (t.Arith 0 Add (t.Truth 0 true) (t.Var 7 y)) ≡ Err (Wanted 0 (Is Integer) (Is Boolean))
  -- leaf, where a list is wanted, and a list where a pair is taken apart
  pub leaf : checks [] [] (t.Leaf 5) ints ≡ Err (Wanted 5 (Is ints) SomeTree)
  pub pair : finds [] ((x, ints) ∷ []) (t.LetPair 0 (bound 5 x) (bound 8 y) (t.Var 13 x) (t.Var 18 x)) ≡ Err (Wanted 13 SomePair (Is ints))
  -- f(true, y): the number of arguments before the arguments
  pub arity : finds (head ∷ []) [] (t.Call 3 f (t.More (t.Truth 5 true) (t.More (t.Var 11 y) t.None))) ≡ Err (Arity 3 1 2)
  -- functions, then headers, then bodies
  pub functions_first : walk_program (wrong ∷ twice ∷ []) ≡ Err (Twice 30)
  pub then_headers : walk_program (wrong ∷ other ∷ []) ≡ Err (Twice 46)
  pub then_bodies : walk_program (wrong ∷ []) ≡ Err (Wanted 24 (Is Integer) (Is Boolean))
  pub untyped : Typed (wrong ∷ []) → ⊥
  -- the fewest parentheses: `*` stands to the right
  pub pairs_to_right : type_text (PairOf Integer (PairOf Boolean Integer)) ≡ codes "int * bool * int"
  pub pairs_to_left : type_text (PairOf (PairOf Integer Boolean) (TreeOf ints)) ≡ codes "(int * bool) * int list tree"
  pub list_of_pairs : type_text (OptionOf (ListOf (PairOf Integer Boolean))) ≡ codes "(int * bool) list option"
  pub some_list : kind_text SomeList ≡ codes "some list"
