-- Calls of the group that can both happen in one evaluation of a body, and that both get the same part.
use Rattle.std.specs.Prelude.{ℕ, nat_eq, List, [], ◌∷◌, ◌++◌, cond, Option, Some, None, slice_get}
use Rattle.std.specs.Str.{bytes_eq}
use Rattle.raml_syntax.specs.Tree as t
use Rattle.raml_syntax.specs.Tree.{Text, Type', Function, Prog}
use Rattle.raml_syntax.specs.Place.{place_of}
use Rattle.explain_rounds.specs.Classes.{Variables, is_sized, is_part, taken_out, class_of, bind, bind_parameters}
use Rattle.explain_rounds.specs.Calls.{is_in, types_at}
pub use Rattle.explain_rounds.specs.declared.handed.Handed.{Handed}

-- two calls by their places, and the place of the name of the part that both get
pub record TwoCalls : Type 0 where
  pub first : ℕ
  pub second : ℕ
  pub part : ℕ

-- where the name stands that the variable was bound by, if it is a part
abbrev pub part_at : Text → Variables → Option ℕ
part_at x [] = None
part_at x (v ∷ vs) = cond (bytes_eq x v.0.name) (cond (is_part v.1) (Some v.0.at) None) (part_at x vs)

-- the same of an expression that is a variable
abbrev pub part_of : Variables → t.Term → Option ℕ
part_of vs (t.Var p x) = part_at x vs
part_of vs (t.Typed p a A) = part_of vs a
part_of vs _ = None

-- what a call at this place hands on there
abbrev pub handed_on : ℕ → Option ℕ → List Handed
handed_on p None = []
handed_on p (Some q) = record { at = p; part = q } ∷ []

abbrev pub handed_one : Variables → ℕ → Type' → t.Term → List Handed
handed_one vs p T a = cond (is_sized T) (handed_on p (part_of vs a)) []

-- the parts of sized types that a call hands on
abbrev pub handed : Variables → ℕ → List Type' → t.Terms → List Handed
handed vs p (T ∷ Ts) (t.More a rest) = handed_one vs p T a ++ handed vs p Ts rest
handed vs p _ _ = []

-- a later call that gets the same part
abbrev pub again : Handed → List Handed → List TwoCalls
again h [] = []
again h (k ∷ ks) = cond (nat_eq h.part k.part) (record { first = h.at; second = k.at; part = h.part } ∷ again h ks) (again h ks)

abbrev pub crossed : List Handed → List Handed → List TwoCalls
crossed [] ks = []
crossed (h ∷ hs) ks = again h ks ++ crossed hs ks

-- what calls of the group in an expression hand on, and which of them get the same
pub record Found : Type 0 where
  pub handed : List Handed
  pub pairs : List TwoCalls

abbrev pub nothing : Found
nothing = record { handed = []; pairs = [] }

-- of parts that both are evaluated
abbrev pub both : Found → Found → Found
both r s = record { handed = r.handed ++ s.handed; pairs = r.pairs ++ (s.pairs ++ crossed r.handed s.handed) }

-- of branches, of which one is
abbrev pub either : Found → Found → Found
either r s = record { handed = r.handed ++ s.handed; pairs = r.pairs ++ s.pairs }

module _ (P : Prog) (group : List ℕ) where
  abbrev pub handed_by : Variables → ℕ → t.Terms → Option ℕ → List Handed
  handed_by vs p args None = []
  handed_by vs p args (Some f) = cond (is_in f group) (handed vs p (types_at (slice_get P f)) args) []

  abbrev mutual
    pub found_in : Variables → t.Term → Found
    found_in vs (t.Arith p op a b) = both (found_in vs a) (found_in vs b)
    found_in vs (t.Compare p op a b) = both (found_in vs a) (found_in vs b)
    found_in vs (t.Not p a) = found_in vs a
    found_in vs (t.Pair p a b) = both (found_in vs a) (found_in vs b)
    found_in vs (t.Cons p a b) = both (found_in vs a) (found_in vs b)
    found_in vs (t.Node p a b c) = both (found_in vs a) (both (found_in vs b) (found_in vs c))
    found_in vs (t.Just p a) = found_in vs a
    found_in vs (t.Call p f args) =
        both (record { handed = handed_by vs p args (place_of f P); pairs = [] }) (found_in_all vs args)
    found_in vs (t.Let p x a b) = both (found_in vs a) (found_in (bind (class_of vs a) (x ∷ []) vs) b)
    found_in vs (t.LetPair p x y a b) = both (found_in vs a) (found_in (bind (class_of vs a) (x ∷ y ∷ []) vs) b)
    found_in vs (t.If p c a b) = both (found_in vs c) (either (found_in vs a) (found_in vs b))
    found_in vs (t.MatchList p c a x y b) =
        both (found_in vs c) (either (found_in vs a) (found_in (bind (taken_out (class_of vs c)) (x ∷ y ∷ []) vs) b))
    found_in vs (t.MatchTree p c a x y z b) =
        both (found_in vs c) (either (found_in vs a) (found_in (bind (taken_out (class_of vs c)) (x ∷ y ∷ z ∷ []) vs) b))
    found_in vs (t.MatchOption p c a x b) =
        both (found_in vs c) (either (found_in vs a) (found_in (bind (taken_out (class_of vs c)) (x ∷ []) vs) b))
    found_in vs (t.Tick p k a) = found_in vs a
    found_in vs (t.Typed p a A) = found_in vs a
    found_in vs _ = nothing

    pub found_in_all : Variables → t.Terms → Found
    found_in_all vs t.None = nothing
    found_in_all vs (t.More a rest) = both (found_in vs a) (found_in_all vs rest)

  abbrev pub found_from : Option Function → Found
  found_from None = nothing
  found_from (Some g) = found_in (bind_parameters g.params []) g.body

  -- the pairs of calls in the function at a place
  abbrev pub calls_with_same_part : ℕ → List TwoCalls
  calls_with_same_part f = (found_from (slice_get P f)).pairs
