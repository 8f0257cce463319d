-- The same walk over types by their places in a table, which grows on the way.
use Rattle.std.specs.Prelude.{ℕ, nat_eq, List, [], ◌∷◌, map, cond, Option, Some, None, Result, Ok, Err, length}
use Rattle.std.specs.Str.{bytes_eq}
use Rattle.raml_syntax.specs.Tree as t
use Rattle.raml_syntax.specs.Tree.{Text, Parameter, Function, Prog}
use Rattle.raml_syntax.specs.Types.{types_of}
use Rattle.raml_syntax.specs.Node.{count}
use Rattle.simple_types.specs.Fault.{Is, SomeList, SomeTree, SomeOption, SomePair, Fault, Unknown, Wanted, NeedsType}
use Rattle.simple_types.specs.Walk.{◌>>=◌, or_fault, place, distinct, arity, function_name, walk_headers}
use Rattle.simple_types.specs.Table.{Table, base, integer, boolean, node_at, placed, type_of, numbered, numbered_all, pair_parts}
use Rattle.simple_types.specs.Table.{list_element, tree_element, option_content}
use Rattle.simple_types.specs.declared.types.TypeId.{TypeId}
use Rattle.simple_types.specs.declared.types.Node.TheVariants.{Pair, List as ListAt, Tree, Opt}

-- variables and the places of their types, the newest first
abbrev pub Ids : Type 0
Ids = List (Text × TypeId)

abbrev pub id_at : Text → Ids → Option TypeId
id_at x [] = None
id_at x (b ∷ G) = cond (bytes_eq x b.0) (Some b.1) (id_at x G)

-- the types of a function's parameters, and of its result
abbrev pub Sig : Type 0
Sig = List TypeId × TypeId

-- of each name
abbrev pub Sigs : Type 0
Sigs = Text → Option Sig

-- the table as it is in the end, and the type that was found
abbrev pub Found : Type 0
Found = Result (Table × TypeId) Fault

abbrev pub gives : Table × TypeId → Found
gives found = Ok found

-- a form at a place has the type that was found
abbrev pub settle : Table → Option TypeId → ℕ → TypeId → Found
settle u None p i = Ok (u, i)
settle u (Some w) p i = cond (nat_eq w.0 i.0) (Ok (u, i)) (Err (Wanted p (Is (type_of u w)) (Is (type_of u i))))

module _ (S : Sigs) where
  abbrev mutual
    pub walk : Table → Option TypeId → Ids → t.Term → Found
    walk u want G (t.Number p n) = settle u want p integer
    walk u want G (t.Truth p b) = settle u want p boolean
    walk u None G (t.Nil p) = Err (NeedsType p)
    walk u (Some w) G (t.Nil p) = do
      a ← or_fault (list_element (node_at u w)) (Wanted p (Is (type_of u w)) SomeList)
      gives (u, w)
    walk u None G (t.Leaf p) = Err (NeedsType p)
    walk u (Some w) G (t.Leaf p) = do
      a ← or_fault (tree_element (node_at u w)) (Wanted p (Is (type_of u w)) SomeTree)
      gives (u, w)
    walk u None G (t.Nothing p) = Err (NeedsType p)
    walk u (Some w) G (t.Nothing p) = do
      a ← or_fault (option_content (node_at u w)) (Wanted p (Is (type_of u w)) SomeOption)
      gives (u, w)
    walk u want G (t.Var p x) = do
      i ← or_fault (id_at x G) (Unknown p)
      settle u want p i
    walk u want G (t.Arith p op a b) = do
      A ← walk u (Some integer) G a
      B ← walk A.0 (Some integer) G b
      settle B.0 want p integer
    walk u want G (t.Compare p op a b) = do
      A ← walk u (Some integer) G a
      B ← walk A.0 (Some integer) G b
      settle B.0 want p boolean
    walk u want G (t.Not p a) = do
      A ← walk u (Some boolean) G a
      settle A.0 want p boolean
    walk u None G (t.Pair p a b) = do
      A ← walk u None G a
      B ← walk A.0 None G b
      gives (placed B.0 (Pair A.1 B.1))
    walk u (Some w) G (t.Pair p a b) = do
      s ← or_fault (pair_parts (node_at u w)) (Wanted p (Is (type_of u w)) SomePair)
      A ← walk u (Some s.0) G a
      B ← walk A.0 (Some s.1) G b
      gives (B.0, w)
    walk u None G (t.Cons p a b) = do
      A ← walk u None G a
      L ← gives (placed A.0 (ListAt A.1))
      walk L.0 (Some L.1) G b
    walk u (Some w) G (t.Cons p a b) = do
      s ← or_fault (list_element (node_at u w)) (Wanted p (Is (type_of u w)) SomeList)
      A ← walk u (Some s) G a
      walk A.0 (Some w) G b
    walk u None G (t.Node p a b c) = do
      A ← walk u None G a
      L ← gives (placed A.0 (Tree A.1))
      B ← walk L.0 (Some L.1) G b
      walk B.0 (Some L.1) G c
    walk u (Some w) G (t.Node p a b c) = do
      s ← or_fault (tree_element (node_at u w)) (Wanted p (Is (type_of u w)) SomeTree)
      A ← walk u (Some s) G a
      B ← walk A.0 (Some w) G b
      walk B.0 (Some w) G c
    walk u None G (t.Just p a) = do
      A ← walk u None G a
      gives (placed A.0 (Opt A.1))
    walk u (Some w) G (t.Just p a) = do
      s ← or_fault (option_content (node_at u w)) (Wanted p (Is (type_of u w)) SomeOption)
      A ← walk u (Some s) G a
      gives (A.0, w)
    walk u want G (t.Call p f args) = do
      g ← or_fault (S f) (Unknown p)
      as_many ← arity p (length g.0) (count args)
      v ← walk_each u G args g.0
      settle v want p g.1
    walk u want G (t.Let p x a b) = do
      A ← walk u None G a
      walk A.0 want ((x.name, A.1) ∷ G) b
    walk u want G (t.LetPair p x y a b) = do
      all_new ← distinct (x ∷ y ∷ [])
      A ← walk u None G a
      s ← or_fault (pair_parts (node_at A.0 A.1)) (Wanted (place a) SomePair (Is (type_of A.0 A.1)))
      walk A.0 want ((y.name, s.1) ∷ (x.name, s.0) ∷ G) b
    walk u want G (t.If p c a b) = do
      C ← walk u (Some boolean) G c
      A ← walk C.0 want G a
      walk A.0 (Some A.1) G b
    walk u want G (t.MatchList p c a x y b) = do
      all_new ← distinct (x ∷ y ∷ [])
      C ← walk u None G c
      s ← or_fault (list_element (node_at C.0 C.1)) (Wanted (place c) SomeList (Is (type_of C.0 C.1)))
      A ← walk C.0 want G a
      walk A.0 (Some A.1) ((y.name, C.1) ∷ (x.name, s) ∷ G) b
    walk u want G (t.MatchTree p c a x y z b) = do
      all_new ← distinct (x ∷ y ∷ z ∷ [])
      C ← walk u None G c
      s ← or_fault (tree_element (node_at C.0 C.1)) (Wanted (place c) SomeTree (Is (type_of C.0 C.1)))
      A ← walk C.0 want G a
      walk A.0 (Some A.1) ((z.name, C.1) ∷ (y.name, C.1) ∷ (x.name, s) ∷ G) b
    walk u want G (t.MatchOption p c a x b) = do
      C ← walk u None G c
      s ← or_fault (option_content (node_at C.0 C.1)) (Wanted (place c) SomeOption (Is (type_of C.0 C.1)))
      A ← walk C.0 want G a
      walk A.0 (Some A.1) ((x.name, s) ∷ G) b
    walk u want G (t.Tick p k a) = walk u want G a
    walk u want G (t.Typed p a A) = do
      T ← gives (numbered u A)
      B ← walk T.0 (Some T.1) G a
      settle B.0 want p T.1

    -- arguments in order, each checked against the type of its parameter
    pub walk_each : Table → Ids → t.Terms → List TypeId → Result Table Fault
    walk_each u G (t.More a rest) (i ∷ is) = do
      A ← walk u (Some i) G a
      walk_each A.0 G rest is
    walk_each u G _ _ = Ok u

  -- a body below its parameters, checked against the type of its result
  abbrev pub walk_body : Table → Ids → List Parameter → Function → Result Table Fault
  walk_body u G [] g = do
    T ← gives (numbered u g.result)
    B ← walk T.0 (Some T.1) G g.body
    Ok B.0
  walk_body u G (p ∷ ps) g = do
    A ← gives (numbered u p.type)
    walk_body A.0 ((p.name, A.1) ∷ G) ps g

  abbrev pub walk_bodies : Table → List Function → Result Table Fault
  walk_bodies u [] = Ok u
  walk_bodies u (g ∷ gs) = do
    v ← walk_body u [] g.params g
    walk_bodies v gs

-- the signature of a function
abbrev pub signature : Table → Function → Table × Sig
signature u g =
    let params = numbered_all u [] (types_of g) in
    let result = numbered params.0 g.result in
    (result.0, (params.1, result.1))

abbrev pub or_else : Option Sig → Option Sig → Option Sig
or_else (Some s) other = Some s
or_else None other = other

-- one more signature, where the name has none
abbrev pub signed : Sigs → Text → Sig → Sigs
signed S x s f = or_else (S f) (cond (bytes_eq f x) (Some s) None)

-- the signatures of functions, behind others
abbrev pub signatures : Table → Sigs → List Function → Table × Sigs
signatures u S [] = (u, S)
signatures u S (g ∷ gs) = let s = signature u g in signatures s.0 (signed S g.name s.1) gs

abbrev pub no_sigs : Sigs
no_sigs f = None

-- the names of functions, then the headers, then the bodies
abbrev pub walk_program : Prog → Result Table Fault
walk_program P = do
  all_new ← distinct (map function_name P)
  headers ← walk_headers P
  walk_bodies (signatures base no_sigs P).1 (signatures base no_sigs P).0 P
