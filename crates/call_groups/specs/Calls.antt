-- Which functions call which, by their places.
use Rattle.std.specs.Prelude.{ℕ, nat_eq, List, map, length, Bool, false, ◌||◌, Option, Some, None, slice_get}
use Rattle.std.specs.List.{filter, range_with_len}
use Rattle.raml_syntax.specs.Tree as t
use Rattle.raml_syntax.specs.Tree.{Function, Prog}
use Rattle.raml_syntax.specs.Place.{place_of}

abbrev pub is_place : ℕ → Option ℕ → Bool
is_place g None = false
is_place g (Some k) = nat_eq g k

module _ (P : Prog) (g : ℕ) where
  abbrev mutual
    -- the function at the place is called in the expression
    pub is_called : t.Term → Bool
    is_called (t.Number p n) = false
    is_called (t.Truth p b) = false
    is_called (t.Nil p) = false
    is_called (t.Leaf p) = false
    is_called (t.Nothing p) = false
    is_called (t.Var p x) = false
    is_called (t.Arith p op a b) = is_called a || is_called b
    is_called (t.Compare p op a b) = is_called a || is_called b
    is_called (t.Not p a) = is_called a
    is_called (t.Pair p a b) = is_called a || is_called b
    is_called (t.Cons p a b) = is_called a || is_called b
    is_called (t.Node p a b c) = is_called a || (is_called b || is_called c)
    is_called (t.Just p a) = is_called a
    is_called (t.Call p f args) = is_place g (place_of f P) || is_called_in args
    is_called (t.Let p x a b) = is_called a || is_called b
    is_called (t.LetPair p x y a b) = is_called a || is_called b
    is_called (t.If p c a b) = is_called c || (is_called a || is_called b)
    is_called (t.MatchList p c a x y b) = is_called c || (is_called a || is_called b)
    is_called (t.MatchTree p c a x y z b) = is_called c || (is_called a || is_called b)
    is_called (t.MatchOption p c a x b) = is_called c || (is_called a || is_called b)
    is_called (t.Tick p k a) = is_called a
    is_called (t.Typed p a A) = is_called a

    pub is_called_in : t.Terms → Bool
    is_called_in t.None = false
    is_called_in (t.More a rest) = is_called a || is_called_in rest

-- the functions that are called in the expression, each once, ascending
abbrev pub callees : Prog → t.Term → List ℕ
callees P e = filter (λ g. is_called P g e) (range_with_len 0 (length P))

-- for each function those that its body calls
abbrev pub calls_of : Prog → List (List ℕ)
calls_of P = map (λ (h : Function). callees P h.body) P

abbrev pub calls_from : Prog → Option Function → ℕ → Bool
calls_from P None g = false
calls_from P (Some h) g = is_called P g h.body

-- the body of the function at the first place calls the one at the second
abbrev pub calls : Prog → ℕ → ℕ → Bool
calls P f g = calls_from P (slice_get P f) g
