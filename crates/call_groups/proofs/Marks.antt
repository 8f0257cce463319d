-- What is marked.
use Rattle.std.proofs.Common.{◌≡◌, ◌<◌, ℕ, zero, suc, [], ◌∷◌, map, length, Bool, true, false, cond, Option, Some, None, ◌⊎◌, inl, inr, refl, ap, ◌∙◌, arith}
use Rattle.std.proofs.lemmas.Bool.{eqb-true, or_cases}
use Rattle.std.specs.Prelude.{◌||◌, slice_get}
use Rattle.std.specs.List.{filter, range_with_len}
use Rattle.std.specs.Option.{option_map}
use Rattle.std.specs.Str.{bytes_eq}
use Rattle.raml_syntax.specs.Tree as t
use Rattle.raml_syntax.specs.Tree.{Text, Function, Prog}
use Rattle.raml_syntax.specs.Place.{place_of}
use Rattle.call_groups.specs.Calls.{is_place, is_called, is_called_in, callees, calls_of, calls_from, calls}
use Rattle.call_groups.specs.Sets.{Members, none, below}
use Rattle.call_groups.specs.Table.{row_at, marked_place, marked, marked_in, call_table}
use Rattle.call_groups.proofs.Truths.{or_none, or_or}

pub place_low : (f : Text) (P : Prog) (k : ℕ) → place_of f P ≡ Some k → k < length P
place_low f [] k h = absurd (cc)
place_low f (g ∷ P) k h = by (bytes_eq f g.name) (place_of f P) (place_low f P) h
  where
    by : (b : Bool) (o : Option ℕ) → ((j : ℕ) → o ≡ Some j → j < length P) → cond b (Some zero) (option_map suc o) ≡ Some k → k < suc (length P)
    by true o low h = let z : zero ≡ k = cc in omega arith
    by false None low h = absurd (cc)
    by false (Some j) low h = let z : suc j ≡ k = cc in let l = low j refl in omega arith

module _ (P : Prog) where
  -- the change adds the function exactly where it is called, and then the function is there
  record Marks (is_in : Bool) (g : ℕ) (change : Members → Members) : Type 0 where
    at : (row : Members) → change row g ≡ (row g || is_in)
    low : is_in ≡ true → g < length P

  nothing : (g : ℕ) → Marks false g (λ row. row)
  nothing g = record { at = λ row. or_none (row g); low = λ h. absurd (cc) }

  called : (f : Text) (g : ℕ) → Marks (is_place g (place_of f P)) g (marked_place (place_of f P))
  called f g = by (place_of f P) refl
    where
      by : (o : Option ℕ) → place_of f P ≡ o → Marks (is_place g o) g (marked_place o)
      by None e = nothing g
      by (Some k) e = record { at = λ row. refl; low = λ h. let i = eqb-true g k h in let l = place_low f P k e in omega arith }

  two : (g : ℕ) (a b : Bool) (f h : Members → Members) → Marks a g f → Marks b g h → Marks (a || b) g (λ row. h (f row))
  two g a b f h p q = record {
    at = λ row. q.at (f row) ∙ ap (λ c. c || b) (p.at row) ∙ or_or (row g) a b;
    low = λ e. by (or_cases a b e);
  }
    where
      by : (a ≡ true) ⊎ (b ≡ true) → g < length P
      by (inl e) = p.low e
      by (inr e) = q.low e

  three : (g : ℕ) (a b c : t.Term) → Marks (is_called P g a) g (marked P a) → Marks (is_called P g b) g (marked P b) → Marks (is_called P g c) g (marked P c) → Marks (is_called P g a || (is_called P g b || is_called P g c)) g (λ row. marked P c (marked P b (marked P a row)))
  three g a b c p q r = two g (is_called P g a) (is_called P g b || is_called P g c) (marked P a) (λ row. marked P c (marked P b row)) p (two g (is_called P g b) (is_called P g c) (marked P b) (marked P c) q r)

  pair : (g : ℕ) (a b : t.Term) → Marks (is_called P g a) g (marked P a) → Marks (is_called P g b) g (marked P b) → Marks (is_called P g a || is_called P g b) g (λ row. marked P b (marked P a row))
  pair g a b p q = two g (is_called P g a) (is_called P g b) (marked P a) (marked P b) p q

  mutual
    marks : (e : t.Term) (g : ℕ) → Marks (is_called P g e) g (marked P e)
    marks (t.Number p n) g = nothing g
    marks (t.Truth p b) g = nothing g
    marks (t.Nil p) g = nothing g
    marks (t.Leaf p) g = nothing g
    marks (t.Nothing p) g = nothing g
    marks (t.Var p x) g = nothing g
    marks (t.Arith p op a b) g = pair g a b (marks a g) (marks b g)
    marks (t.Compare p op a b) g = pair g a b (marks a g) (marks b g)
    marks (t.Not p a) g = marks a g
    marks (t.Pair p a b) g = pair g a b (marks a g) (marks b g)
    marks (t.Cons p a b) g = pair g a b (marks a g) (marks b g)
    marks (t.Node p a b c) g = three g a b c (marks a g) (marks b g) (marks c g)
    marks (t.Just p a) g = marks a g
    marks (t.Call p f args) g =
        two g (is_place g (place_of f P)) (is_called_in P g args) (marked_place (place_of f P)) (marked_in P args)
        (called f g) (marks_all args g)
    marks (t.Let p x a b) g = pair g a b (marks a g) (marks b g)
    marks (t.LetPair p x y a b) g = pair g a b (marks a g) (marks b g)
    marks (t.If p c a b) g = three g c a b (marks c g) (marks a g) (marks b g)
    marks (t.MatchList p c a x y b) g = three g c a b (marks c g) (marks a g) (marks b g)
    marks (t.MatchTree p c a x y z b) g = three g c a b (marks c g) (marks a g) (marks b g)
    marks (t.MatchOption p c a x b) g = three g c a b (marks c g) (marks a g) (marks b g)
    marks (t.Tick p k a) g = marks a g
    marks (t.Typed p a A) g = marks a g

    marks_all : (es : t.Terms) (g : ℕ) → Marks (is_called_in P g es) g (marked_in P es)
    marks_all t.None g = nothing g
    marks_all (t.More a rest) g = two g (is_called P g a) (is_called_in P g rest) (marked P a) (marked_in P rest) (marks a g) (marks_all rest g)

  pub row_marks : (e : t.Term) (g : ℕ) → marked P e none g ≡ is_called P g e
  row_marks e g = (marks e g).at none

  table_at : (Q : Prog) (f g : ℕ) → row_at (map (λ (h : Function). marked P h.body none) Q) f g ≡ calls_from P (slice_get Q f) g
  table_at [] f g = refl
  table_at (h ∷ Q) zero g = row_marks h.body g
  table_at (h ∷ Q) (suc f) g = table_at Q f g

  pub table_calls : (f g : ℕ) → row_at (call_table P) f g ≡ calls P f g
  table_calls f g = table_at P f g

  lists : (Q : Prog) → map (below (length P)) (map (λ (h : Function). marked P h.body none) Q) ≡ map (λ (h : Function). callees P h.body) Q
  lists [] = refl
  lists (h ∷ Q) = (λ i. filter (λ g. row_marks h.body g i) (range_with_len 0 (length P)) ∷ lists Q i)

  pub listed_calls : map (below (length P)) (call_table P) ≡ calls_of P
  listed_calls = lists P

  pub table_count : length (call_table P) ≡ length P
  table_count = by P
    where
      by : (Q : Prog) → length (map (λ (h : Function). marked P h.body none) Q) ≡ length Q
      by [] = refl
      by (h ∷ Q) = ap suc (by Q)

  -- a function that is called is there
  pub calls_low : (f g : ℕ) → calls P f g ≡ true → g < length P
  calls_low f g h = by (slice_get P f) h
    where
      by : (o : Option Function) → calls_from P o g ≡ true → g < length P
      by None h = absurd (cc)
      by (Some d) h = (marks d.body g).low h
