-- The calls inside a group of functions that call each other, and how each of them goes down.
use Rattle.std.specs.Prelude.{ℕ, nat_eq, List, [], ◌∷◌, ◌++◌, Bool, false, cond, ◌||◌, ◌&&◌, Option, Some, None, slice_get}
use Rattle.raml_syntax.specs.Tree as t
use Rattle.raml_syntax.specs.Tree.{Type', Function, Prog}
use Rattle.raml_syntax.specs.Types.{types_of}
use Rattle.raml_syntax.specs.Place.{place_of}
use Rattle.explain_rounds.specs.Classes.{Class, Variables, is_sized, is_part, is_made, taken_out, class_of, bind, bind_parameters}
pub use Rattle.explain_rounds.specs.declared.idle.Kind.{Kind}
pub use Rattle.explain_rounds.specs.declared.idle.Kind.TheVariants.{Smaller, Computed, Stuck}

-- a call of a function of the group: its place, the place of the function in the program, and how it goes down
pub record Call : Type 0 where
  pub at : ℕ
  pub callee : ℕ
  pub kind : Kind

-- the function is of the group
abbrev pub is_in : ℕ → List ℕ → Bool
is_in f [] = false
is_in f (g ∷ group) = nat_eq f g || is_in f group

-- some argument of a sized type is of such a class
abbrev pub hands : (Class → Bool) → Variables → List Type' → t.Terms → Bool
hands test vs (T ∷ Ts) (t.More a rest) = (is_sized T && test (class_of vs a)) || hands test vs Ts rest
hands test vs _ _ = false

-- A call that hands on no part that has a size is idle: it gets what another call made, or it is stuck.
abbrev pub kind_of : Variables → List Type' → t.Terms → Kind
kind_of vs types args = cond (hands is_part vs types args) Smaller (cond (hands is_made vs types args) Computed Stuck)

-- the types of the parameters of a function
abbrev pub types_at : Option Function → List Type'
types_at None = []
types_at (Some g) = types_of g

module _ (P : Prog) (group : List ℕ) where
  -- the call of the function at a place, where that is of the group
  abbrev pub call_of : Variables → ℕ → t.Terms → Option ℕ → List Call
  call_of vs p args None = []
  call_of vs p args (Some f) =
      cond (is_in f group) (record { at = p; callee = f; kind = kind_of vs (types_at (slice_get P f)) args } ∷ []) []

  abbrev mutual
    -- the calls of the group in an expression, in the order of the source
    pub calls_in : Variables → t.Term → List Call
    calls_in vs (t.Arith p op a b) = calls_in vs a ++ calls_in vs b
    calls_in vs (t.Compare p op a b) = calls_in vs a ++ calls_in vs b
    calls_in vs (t.Not p a) = calls_in vs a
    calls_in vs (t.Pair p a b) = calls_in vs a ++ calls_in vs b
    calls_in vs (t.Cons p a b) = calls_in vs a ++ calls_in vs b
    calls_in vs (t.Node p a b c) = calls_in vs a ++ (calls_in vs b ++ calls_in vs c)
    calls_in vs (t.Just p a) = calls_in vs a
    calls_in vs (t.Call p f args) = call_of vs p args (place_of f P) ++ calls_in_all vs args
    calls_in vs (t.Let p x a b) = calls_in vs a ++ calls_in (bind (class_of vs a) (x ∷ []) vs) b
    calls_in vs (t.LetPair p x y a b) = calls_in vs a ++ calls_in (bind (class_of vs a) (x ∷ y ∷ []) vs) b
    calls_in vs (t.If p c a b) = calls_in vs c ++ (calls_in vs a ++ calls_in vs b)
    calls_in vs (t.MatchList p c a x y b) =
        calls_in vs c ++ (calls_in vs a ++ calls_in (bind (taken_out (class_of vs c)) (x ∷ y ∷ []) vs) b)
    calls_in vs (t.MatchTree p c a x y z b) =
        calls_in vs c ++ (calls_in vs a ++ calls_in (bind (taken_out (class_of vs c)) (x ∷ y ∷ z ∷ []) vs) b)
    calls_in vs (t.MatchOption p c a x b) =
        calls_in vs c ++ (calls_in vs a ++ calls_in (bind (taken_out (class_of vs c)) (x ∷ []) vs) b)
    calls_in vs (t.Tick p k a) = calls_in vs a
    calls_in vs (t.Typed p a A) = calls_in vs a
    calls_in vs _ = []

    pub calls_in_all : Variables → t.Terms → List Call
    calls_in_all vs t.None = []
    calls_in_all vs (t.More a rest) = calls_in vs a ++ calls_in_all vs rest

  abbrev pub calls_from : Option Function → List Call
  calls_from None = []
  calls_from (Some g) = calls_in (bind_parameters g.params []) g.body

  -- the calls of the group in the function at a place
  abbrev pub group_calls : ℕ → List Call
  group_calls f = calls_from (slice_get P f)
