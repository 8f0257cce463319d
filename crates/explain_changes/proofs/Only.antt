-- Nothing changes where no chosen byte is that of a site.
use Rattle.std.proofs.Common.{◌≡◌, ℕ, List, [], ◌∷◌, ◌++◌, map, Bool, true, false, cond, Option, Some, None, refl, ap}
use Rattle.raml_syntax.specs.Tree as t
use Rattle.raml_syntax.specs.Tree.{Text, Function, Prog}
use Rattle.explain_changes.specs.Built.{Built, Nil, Leaf, Nothing}
use Rattle.explain_changes.specs.Scope as s
use Rattle.explain_changes.specs.Scope.{Scope, kind, variable, built_at, in_pair, in_empty, in_list, in_tree, in_option, in_function}
use Rattle.explain_changes.specs.Sites.{Site, site, unless, sites, sites_of_all, sites_of_each, is_chosen, rebuilt, changed, changed_all, changed_function}
use Rattle.explain_changes.specs.Laws.{NoneIsChosen, OnlySitesChange}

module _ (chosen : List ℕ) where
  two : (xs ys : List Site) → NoneIsChosen chosen (xs ++ ys) → NoneIsChosen chosen xs × NoneIsChosen chosen ys
  two [] ys h = (tt, h)
  two (x ∷ xs) ys h = let rest = two xs ys h.1 in ((h.0, rest.0), rest.1)

  three : (xs ys zs : List Site) → NoneIsChosen chosen (xs ++ (ys ++ zs)) → NoneIsChosen chosen xs × NoneIsChosen chosen ys × NoneIsChosen chosen zs
  three xs ys zs h =
      let first = two xs (ys ++ zs) h in
      let rest = two ys zs first.1 in
      (first.0, rest.0, rest.1)

  module _ (P : Prog) (f : Text) where
    use_stays : (p : ℕ) (x : Text) (o : Option Built) → NoneIsChosen chosen (site f p x o) → cond (is_chosen chosen p) (rebuilt p x o) (t.Var p x) ≡ t.Var p x
    use_stays p x None h = by (is_chosen chosen p)
      where
        by : (c : Bool) → cond c (t.Var p x) (t.Var p x) ≡ t.Var p x
        by true = refl
        by false = refl
    use_stays p x (Some b) h = ap (λ c. cond c (rebuilt p x (Some b)) (t.Var p x)) h.0

    -- what is taken apart
    subject_stays : (c other : t.Term) (o : Option Text) (found : List Site) → (NoneIsChosen chosen found → other ≡ c) → NoneIsChosen chosen (unless o [] found) → unless o c other ≡ c
    subject_stays c other None found stays h = stays h
    subject_stays c other (Some x) found stays h = refl

    mutual
      stays : (S : Scope) (e : t.Term) → NoneIsChosen chosen (sites P f S e) → changed P chosen S e ≡ e
      stays S (t.Number p n) h = refl
      stays S (t.Truth p b) h = refl
      stays S (t.Nil p) h = refl
      stays S (t.Leaf p) h = refl
      stays S (t.Nothing p) h = refl
      stays S (t.Var p x) h = use_stays p x (built_at x S) h
      stays S (t.Arith p op a b) h = let k = two (sites P f S a) _ h in λ i. t.Arith p op (stays S a k.0 i) (stays S b k.1 i)
      stays S (t.Compare p op a b) h = let k = two (sites P f S a) _ h in λ i. t.Compare p op (stays S a k.0 i) (stays S b k.1 i)
      stays S (t.Not p a) h = λ i. t.Not p (stays S a h i)
      stays S (t.Pair p a b) h = let k = two (sites P f S a) _ h in λ i. t.Pair p (stays S a k.0 i) (stays S b k.1 i)
      stays S (t.Cons p a b) h = let k = two (sites P f S a) _ h in λ i. t.Cons p (stays S a k.0 i) (stays S b k.1 i)
      stays S (t.Node p a b c) h =
          let k = three (sites P f S a) (sites P f S b) _ h in
          λ i. t.Node p (stays S a k.0 i) (stays S b k.1 i) (stays S c k.2 i)
      stays S (t.Just p a) h = λ i. t.Just p (stays S a h i)
      stays S (t.Call p g args) h = λ i. t.Call p g (all_stay S args h i)
      stays S (t.Let p x a b) h =
          let k = two (sites P f S a) _ h in
          λ i. t.Let p x (stays S a k.0 i) (stays (s.Bound x.name (kind P S a) ∷ S) b k.1 i)
      stays S (t.LetPair p x y c a) h =
          let k = two (unless (variable c) [] (sites P f S c)) _ h in
          λ i. t.LetPair p x y (subject_stays c _ (variable c) (sites P f S c) (stays S c) k.0 i) (stays (in_pair P S c x.name y.name) a k.1 i)
      stays S (t.If p c a b) h =
          let k = three (sites P f S c) (sites P f S a) _ h in
          λ i. t.If p (stays S c k.0 i) (stays S a k.1 i) (stays S b k.2 i)
      stays S (t.MatchList p c a x y b) h =
          let k = three (unless (variable c) [] (sites P f S c)) (sites P f (in_empty S c Nil) a) _ h in
          λ i. t.MatchList p (subject_stays c _ (variable c) (sites P f S c) (stays S c) k.0 i) (stays (in_empty S c Nil) a k.1 i) x y
          (stays (in_list P S c x.name y.name) b k.2 i)
      stays S (t.MatchTree p c a x y z b) h =
          let k = three (unless (variable c) [] (sites P f S c)) (sites P f (in_empty S c Leaf) a) _ h in
          λ i. t.MatchTree p (subject_stays c _ (variable c) (sites P f S c) (stays S c) k.0 i) (stays (in_empty S c Leaf) a k.1 i) x y z
          (stays (in_tree P S c x.name y.name z.name) b k.2 i)
      stays S (t.MatchOption p c a x b) h =
          let k = three (unless (variable c) [] (sites P f S c)) (sites P f (in_empty S c Nothing) a) _ h in
          λ i. t.MatchOption p (subject_stays c _ (variable c) (sites P f S c) (stays S c) k.0 i) (stays (in_empty S c Nothing) a k.1 i) x
          (stays (in_option P S c x.name) b k.2 i)
      stays S (t.Tick p n a) h = λ i. t.Tick p n (stays S a h i)
      stays S (t.Typed p a A) h = λ i. t.Typed p (stays S a h i) A

      all_stay : (S : Scope) (es : t.Terms) → NoneIsChosen chosen (sites_of_all P f S es) → changed_all P chosen S es ≡ es
      all_stay S t.None h = refl
      all_stay S (t.More a rest) h = let k = two (sites P f S a) _ h in λ i. t.More (stays S a k.0 i) (all_stay S rest k.1 i)

  function_stays : (P : Prog) (g : Function) → NoneIsChosen chosen (sites P g.name (in_function [] g.params) g.body) → changed_function P chosen g ≡ g
  function_stays P g h =
      λ i. record { at = g.at; name = g.name; params = g.params; result = g.result; body = stays P g.name (in_function [] g.params) g.body h i }

  each_stays : (P : Prog) (gs : List Function) → NoneIsChosen chosen (sites_of_each P gs) → map (changed_function P chosen) gs ≡ gs
  each_stays P [] h = refl
  each_stays P (g ∷ gs) h =
      let k = two (sites P g.name (in_function [] g.params) g.body) (sites_of_each P gs) h in
      λ i. function_stays P g k.0 i ∷ each_stays P gs k.1 i

pub only_sites_change : OnlySitesChange
only_sites_change P chosen h = each_stays chosen P P h
