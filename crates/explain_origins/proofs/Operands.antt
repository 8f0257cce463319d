-- Operands one by one.
use Rattle.std.proofs.Common.{◌≡◌, ◌+◌, ◌≤◌, ℕ, zero, suc, List, [], ◌∷◌, length, drop, slice_get, Option, Some, None, refl, ap, ◌∙◌, arith}
use Rattle.std.proofs.lemmas.List.{drop_all}
use Rattle.std.specs.Prelude.{true, false}
use Rattle.std.specs.Option.{is_some}
use Rattle.raml_syntax.specs.Tree as t
use Rattle.raml_syntax.specs.Tree.{Text}
use Rattle.raml_syntax.specs.Read.{terms}
use Rattle.normal_spec.specs.One.{plain}
use Rattle.explain_origins.specs.Origins.{Origins, Forks, bound_unless, before, origins, before_all}
use Rattle.explain_origins.specs.Cursors.{bare, listed, operands, own, before_each, left}

pub listed_terms : (es : List t.Term) → listed (terms es) ≡ es
listed_terms [] = refl
listed_terms (e ∷ es) = ap (λ rest. e ∷ rest) (listed_terms es)

all_listed : (args : t.Terms) (o : Origins) → before_each (listed args) o ≡ before_all args o
all_listed t.None o = refl
all_listed (t.More a args) o = ap (before a (origins a)) (all_listed args o)

-- where no operand is bound, all is left
pub left_all : (e : t.Term) → left (bare e) 0 ≡ origins e
left_all (t.Number p n) = refl
left_all (t.Truth p b) = refl
left_all (t.Nil p) = refl
left_all (t.Leaf p) = refl
left_all (t.Nothing p) = refl
left_all (t.Var p x) = refl
left_all (t.Arith p op a b) = refl
left_all (t.Compare p op a b) = refl
left_all (t.Not p a) = refl
left_all (t.Pair p a b) = refl
left_all (t.Cons p a b) = refl
left_all (t.Node p a b c) = refl
left_all (t.Just p a) = refl
left_all (t.Call p f args) = all_listed args _
left_all (t.Let p x a b) = refl
left_all (t.LetPair p x y a b) = refl
left_all (t.If p c a b) = refl
left_all (t.MatchList p c a x y b) = refl
left_all (t.MatchTree p c a x y z b) = refl
left_all (t.MatchOption p c a x b) = refl
left_all (t.Tick p n a) = refl
left_all (t.Typed p a A) = left_all a

-- The operand at a place stands before what is left behind it: a variable is passed over, and any other operand is bound.
next_left : (es : List t.Term) (k : ℕ) (a : t.Term) (o : Origins) → slice_get es k ≡ Some a → before_each (drop k es) o ≡ before a (origins a) (before_each (drop (k + 1) es) o)
next_left [] k a o h = absurd (cc)
next_left (b ∷ rest) zero a o h = let e : b ≡ a = cc in ap (λ c. before c (origins c) (before_each rest o)) e
next_left (b ∷ rest) (suc k) a o h =
    let more : suc (k + 1) ≡ suc k + 1 = omega arith in
    next_left rest k a o h ∙ ap (λ i. before a (origins a) (before_each (drop i (b ∷ rest)) o)) more

pub passed : (e : t.Term) (k : ℕ) (a : t.Term) → slice_get (operands e) k ≡ Some a → is_some (plain a) ≡ true → left e k ≡ left e (k + 1)
passed e k a h i = next_left (operands e) k a (own e) h ∙ by (plain a) i
  where
    by : (x : Option Text) → is_some x ≡ true → bound_unless x a (origins a) (left e (k + 1)) ≡ left e (k + 1)
    by (Some x) i = refl
    by None i = absurd (cc)

pub binds : (e : t.Term) (k : ℕ) (a : t.Term) → slice_get (operands e) k ≡ Some a → is_some (plain a) ≡ false → left e k ≡ Forks a (origins a) (left e (k + 1))
binds e k a h i = next_left (operands e) k a (own e) h ∙ by (plain a) i
  where
    by : (x : Option Text) → is_some x ≡ false → bound_unless x a (origins a) (left e (k + 1)) ≡ Forks a (origins a) (left e (k + 1))
    by (Some x) i = absurd (cc)
    by None i = refl

-- behind the last operand stands what stands for the expression itself
pub none_left : (e : t.Term) (k : ℕ) → length (operands e) ≤ k → left e k ≡ own e
none_left e k h = ap (λ es. before_each es (own e)) (drop_all k (operands e) h)
