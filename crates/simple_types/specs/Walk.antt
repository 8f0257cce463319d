-- The walk over a program: the type of each expression, or the first fault.
use Rattle.std.specs.Prelude.{ℕ, nat_eq, List, [], ◌∷◌, ◌++◌, map, Bool, true, false, ◌&&◌, cond, Option, Some, None, Result, Ok, Err}
use Rattle.std.specs.Prelude.{length}
use Rattle.std.specs.List.{list_any}
use Rattle.std.specs.Str.{bytes_eq}
use Rattle.raml_syntax.specs.Tree as t
use Rattle.raml_syntax.specs.Tree.{Text, Type', Integer, Boolean, PairOf, ListOf, TreeOf, OptionOf, Bound, Parameter, Function, Prog}
use Rattle.raml_syntax.specs.SameType.{same_type}
use Rattle.raml_syntax.specs.Eval.{find}
use Rattle.raml_syntax.specs.Types.{Context, type_at, bind_types, types_of}
use Rattle.raml_syntax.specs.Node.{count}
use Rattle.simple_types.specs.Fault.{Is, SomeList, SomeTree, SomeOption, SomePair, Fault, Unknown, Twice, Wanted, NeedsType, Arity}

-- after a fault nothing more is looked at
abbrev pub and_then : {A B : Type 0} → Result A Fault → (A → Result B Fault) → Result B Fault
and_then (Ok x) next = next x
and_then (Err fault) next = Err fault

infixl 10 ◌>>=◌
abbrev pub ◌>>=◌ : {A B : Type 0} → Result A Fault → (A → Result B Fault) → Result B Fault
first >>= next = and_then first next

-- two operands, and then the rest
abbrev pub both : {A B C : Type 0} → Result A Fault → Result B Fault → Result C Fault → Result C Fault
both first second rest = do
  a ← first
  b ← second
  rest

-- what is there, or else the fault
abbrev pub or_fault : {A : Type 0} → Option A → Fault → Result A Fault
or_fault (Some x) fault = Ok x
or_fault None fault = Err fault

-- the parts of a type, where it is of that kind
abbrev pub pair_parts : Type' → Option (Type' × Type')
pair_parts (PairOf A B) = Some (A, B)
pair_parts _ = None

abbrev pub list_element : Type' → Option Type'
list_element (ListOf A) = Some A
list_element _ = None

abbrev pub tree_element : Type' → Option Type'
tree_element (TreeOf A) = Some A
tree_element _ = None

abbrev pub option_content : Type' → Option Type'
option_content (OptionOf A) = Some A
option_content _ = None

-- the place of an expression
abbrev pub place : t.Term → ℕ
place (t.Number p n) = p
place (t.Truth p b) = p
place (t.Nil p) = p
place (t.Leaf p) = p
place (t.Nothing p) = p
place (t.Var p x) = p
place (t.Arith p op a b) = p
place (t.Compare p op a b) = p
place (t.Not p a) = p
place (t.Pair p a b) = p
place (t.Cons p a b) = p
place (t.Node p a b c) = p
place (t.Just p a) = p
place (t.Call p f args) = p
place (t.Let p x a b) = p
place (t.LetPair p x y a b) = p
place (t.If p c a b) = p
place (t.MatchList p c a x y b) = p
place (t.MatchTree p c a x y z b) = p
place (t.MatchOption p c a x b) = p
place (t.Tick p k a) = p
place (t.Typed p a A) = p

-- the place of the first name that is one of those before it, here or seen earlier
abbrev pub repeated : List Text → List Bound → Option ℕ
repeated seen [] = None
repeated seen (x ∷ xs) = cond (list_any (bytes_eq x.name) seen) (Some x.at) (repeated (seen ++ x.name ∷ []) xs)

-- a name that stands twice is a fault
abbrev pub all_new : Option ℕ → Result (Unit {0}) Fault
all_new None = Ok tt
all_new (Some p) = Err (Twice p)

abbrev pub distinct : List Bound → Result (Unit {0}) Fault
distinct xs = all_new (repeated [] xs)

-- A form at a place has the type that was found. Where it is checked against a type, it must have that one.
abbrev pub settle : Option Type' → ℕ → Type' → Result Type' Fault
settle None p A = Ok A
settle (Some T) p A = cond (same_type T A) (Ok A) (Err (Wanted p (Is T) (Is A)))

-- the call at a place has as many arguments as there are parameters
abbrev pub arity : ℕ → ℕ → ℕ → Result (Unit {0}) Fault
arity p want got = cond (nat_eq want got) (Ok tt) (Err (Arity p want got))

-- Of a program: the walk over an expression. It is found, or, where a type stands before it, checked against that type; the type
-- that comes out is then that one.
module _ (P : Prog) where
  abbrev mutual
    pub walk : Option Type' → Context → t.Term → Result Type' Fault
    walk want G (t.Number p n) = settle want p Integer
    walk want G (t.Truth p b) = settle want p Boolean
    walk None G (t.Nil p) = Err (NeedsType p)
    walk (Some T) G (t.Nil p) = do
      A ← or_fault (list_element T) (Wanted p (Is T) SomeList)
      Ok T
    walk None G (t.Leaf p) = Err (NeedsType p)
    walk (Some T) G (t.Leaf p) = do
      A ← or_fault (tree_element T) (Wanted p (Is T) SomeTree)
      Ok T
    walk None G (t.Nothing p) = Err (NeedsType p)
    walk (Some T) G (t.Nothing p) = do
      A ← or_fault (option_content T) (Wanted p (Is T) SomeOption)
      Ok T
    walk want G (t.Var p x) = do
      A ← or_fault (type_at x G) (Unknown p)
      settle want p A
    walk want G (t.Arith p op a b) = both (walk (Some Integer) G a) (walk (Some Integer) G b) (settle want p Integer)
    walk want G (t.Compare p op a b) = both (walk (Some Integer) G a) (walk (Some Integer) G b) (settle want p Boolean)
    walk want G (t.Not p a) = do
      A ← walk (Some Boolean) G a
      settle want p Boolean
    walk None G (t.Pair p a b) = do
      A ← walk None G a
      B ← walk None G b
      Ok (PairOf A B)
    walk (Some T) G (t.Pair p a b) = do
      S ← or_fault (pair_parts T) (Wanted p (Is T) SomePair)
      A ← walk (Some S.0) G a
      B ← walk (Some S.1) G b
      Ok T
    walk None G (t.Cons p a b) = do
      A ← walk None G a
      walk (Some (ListOf A)) G b
    walk (Some T) G (t.Cons p a b) = do
      S ← or_fault (list_element T) (Wanted p (Is T) SomeList)
      A ← walk (Some S) G a
      walk (Some T) G b
    walk None G (t.Node p a b c) = do
      A ← walk None G a
      B ← walk (Some (TreeOf A)) G b
      walk (Some (TreeOf A)) G c
    walk (Some T) G (t.Node p a b c) = do
      S ← or_fault (tree_element T) (Wanted p (Is T) SomeTree)
      A ← walk (Some S) G a
      B ← walk (Some T) G b
      walk (Some T) G c
    walk None G (t.Just p a) = do
      A ← walk None G a
      Ok (OptionOf A)
    walk (Some T) G (t.Just p a) = do
      S ← or_fault (option_content T) (Wanted p (Is T) SomeOption)
      A ← walk (Some S) G a
      Ok T
    walk want G (t.Call p f args) = do
      g ← or_fault (find f P) (Unknown p)
      as_many ← arity p (length g.params) (count args)
      checked ← walk_each G args (types_of g)
      settle want p g.result
    walk want G (t.Let p x a b) = do
      A ← walk None G a
      walk want ((x.name, A) ∷ G) b
    walk want G (t.LetPair p x y a b) = do
      all_new ← distinct (x ∷ y ∷ [])
      S ← walk None G a
      A ← or_fault (pair_parts S) (Wanted (place a) SomePair (Is S))
      walk want ((y.name, A.1) ∷ (x.name, A.0) ∷ G) b
    walk want G (t.If p c a b) = do
      C ← walk (Some Boolean) G c
      A ← walk want G a
      walk (Some A) G b
    walk want G (t.MatchList p c a x y b) = do
      all_new ← distinct (x ∷ y ∷ [])
      S ← walk None G c
      A ← or_fault (list_element S) (Wanted (place c) SomeList (Is S))
      T ← walk want G a
      walk (Some T) ((y.name, S) ∷ (x.name, A) ∷ G) b
    walk want G (t.MatchTree p c a x y z b) = do
      all_new ← distinct (x ∷ y ∷ z ∷ [])
      S ← walk None G c
      A ← or_fault (tree_element S) (Wanted (place c) SomeTree (Is S))
      T ← walk want G a
      walk (Some T) ((z.name, S) ∷ (y.name, S) ∷ (x.name, A) ∷ G) b
    walk want G (t.MatchOption p c a x b) = do
      S ← walk None G c
      A ← or_fault (option_content S) (Wanted (place c) SomeOption (Is S))
      T ← walk want G a
      walk (Some T) ((x.name, A) ∷ G) b
    walk want G (t.Tick p k a) = walk want G a
    walk want G (t.Typed p a A) = do
      B ← walk (Some A) G a
      settle want p A

    -- arguments in order, each checked against the type of its parameter
    pub walk_each : Context → t.Terms → List Type' → Result (Unit {0}) Fault
    walk_each G (t.More a rest) (A ∷ As) = do
      B ← walk (Some A) G a
      walk_each G rest As
    walk_each G _ _ = Ok tt

-- the type that is found for the expression, or the first fault in it
abbrev pub finds : Prog → Context → t.Term → Result Type' Fault
finds P = walk P None

-- the expression checked against the type
abbrev pub checks : Prog → Context → t.Term → Type' → Result Type' Fault
checks P G e T = walk P (Some T) G e

abbrev pub parameter_name : Parameter → Bound
parameter_name p = record { at = p.at; name = p.name }

abbrev pub function_name : Function → Bound
function_name g = record { at = g.at; name = g.name }

abbrev pub walk_headers : Prog → Result (Unit {0}) Fault
walk_headers [] = Ok tt
walk_headers (g ∷ gs) = do
  all_new ← distinct (map parameter_name g.params)
  walk_headers gs

-- the bodies of some functions of the program, each checked against its result type
abbrev pub walk_bodies : Prog → List Function → Result (Unit {0}) Fault
walk_bodies P [] = Ok tt
walk_bodies P (g ∷ gs) = do
  T ← checks P (bind_types [] g.params) g.body g.result
  walk_bodies P gs

-- the names of functions, then the headers, then the bodies
abbrev pub walk_program : Prog → Result (Unit {0}) Fault
walk_program P = do
  all_new ← distinct (map function_name P)
  headers ← walk_headers P
  walk_bodies P P
