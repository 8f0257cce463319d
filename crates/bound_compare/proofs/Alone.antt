-- A sum of terms has its powers once.
use Rattle.std.proofs.Common.{◌≡◌, ℕ, ℤ, pos, Bool, true, false, cond, List, [], ◌∷◌, map, All, refl, sym, ap, ◌∙◌}
use Rattle.std.specs.declared.cmp.Ordering.{Ordering}
use Rattle.std.specs.declared.cmp.Ordering.TheVariants.{Less, Equal, Greater}
use Rattle.std.specs.Ordering.{ordering_reverse, is_eq}
use Rattle.std.specs.Str.{bytes_eq}
use Rattle.std.proofs.lemmas.List.Elements.{All-head, All-tail}
use Rattle.std.proofs.lemmas.Slice.Eq.{bytes_eq-Decides}
use Rattle.base_poly.specs.Indices.{IsBefore, Ascends}
use Rattle.bound_compare.specs.Laws.{PowersAreOne}
use Rattle.bound_compare.specs.Order.{exponents_total, tied_exponents}
use Rattle.bound_compare.specs.Powers.{Powers, exponent_order, listed_at}
use Rattle.bound_compare.proofs.Grouped.{IsNonzero}

abbrev keys : Powers → List (List ℕ)
keys ps = map (λ p. p.0) ps

-- exponents before all of these are not among them
none_listed : (k : List ℕ) (ps : Powers) → IsBefore exponent_order k (keys ps) → listed_at k ps ≡ pos 0
none_listed k [] h = refl
none_listed k (p ∷ ps) h = λ i. cond ((tied_exponents k p.0 ∙ ap is_eq h.0) i) p.1 (none_listed k ps h.1 i)

own : (p : List ℕ × ℤ) (ps : Powers) → listed_at p.0 (p ∷ ps) ≡ p.1
own p ps = ap (λ b. cond b p.1 (listed_at p.0 ps)) ((bytes_eq-Decides p.0 p.0).1 refl)

before_more : (k j : List ℕ) (js : List (List ℕ)) → exponent_order k j ≡ Less → IsBefore exponent_order j js → IsBefore exponent_order k js
before_more k j [] e h = tt
before_more k j (i ∷ js) e h = (exponents_total.trans k j i e h.0, before_more k j js e h.1)

-- the first of some powers is in no others that begin behind it
missing : (p : List ℕ × ℤ) (ps qs : Powers) → All IsNonzero (p ∷ ps) → IsBefore exponent_order p.0 (keys qs) → ((es : List ℕ) → listed_at es (p ∷ ps) ≡ listed_at es qs) → ⊥
missing p ps qs n h e = All-head IsNonzero p ps n (sym (own p ps) ∙ e p.0 ∙ none_listed p.0 qs h)

same_rests : (p q : List ℕ × ℤ) (ps qs : Powers) → p.0 ≡ q.0 → IsBefore exponent_order p.0 (keys ps) → IsBefore exponent_order q.0 (keys qs) →
    ((es : List ℕ) → listed_at es (p ∷ ps) ≡ listed_at es (q ∷ qs)) → (es : List ℕ) → listed_at es ps ≡ listed_at es qs
same_rests p q ps qs k a b e es = by (bytes_eq es p.0) refl
  where
    by : (t : Bool) → bytes_eq es p.0 ≡ t → listed_at es ps ≡ listed_at es qs
    by true f =
        let here = (bytes_eq-Decides es p.0).0 f in
        ap (λ x. listed_at x ps) here ∙ none_listed p.0 ps a ∙ sym (none_listed q.0 qs b) ∙ ap (λ x. listed_at x qs) (sym (here ∙ k))
    by false f = ap (λ t. cond t p.1 (listed_at es ps)) (sym f) ∙ e es ∙ ap (λ t. cond t q.1 (listed_at es qs)) (ap (bytes_eq es) (sym k) ∙ f)

same_lists : (ps qs : Powers) → All IsNonzero ps → All IsNonzero qs → Ascends exponent_order (keys ps) → Ascends exponent_order (keys qs) →
    ((es : List ℕ) → listed_at es ps ≡ listed_at es qs) → ps ≡ qs
same_lists [] [] m n a b e = refl
same_lists [] (q ∷ qs) m n a b e = absurd (missing q qs [] n tt (λ es. sym (e es)))
same_lists (p ∷ ps) [] m n a b e = absurd (missing p ps [] m tt e)
same_lists (p ∷ ps) (q ∷ qs) m n a b e =
    by (same_lists ps qs (All-tail IsNonzero p ps m) (All-tail IsNonzero q qs n) a.1 b.1) (exponent_order p.0 q.0) refl
  where
    by : (((es : List ℕ) → listed_at es ps ≡ listed_at es qs) → ps ≡ qs) → (o : Ordering) → exponent_order p.0 q.0 ≡ o → p ∷ ps ≡ q ∷ qs
    by more Less f = absurd (missing p ps (q ∷ qs) m (f, before_more p.0 q.0 (keys qs) f b.0) e)
    by more Greater f =
        let less : exponent_order q.0 p.0 ≡ Less = exponents_total.antisymm q.0 p.0 ∙ ap ordering_reverse f in
        absurd (missing q qs (p ∷ ps) n (less, before_more q.0 p.0 (keys ps) less a.0) (λ es. sym (e es)))
    by more Equal f =
        let key : p.0 ≡ q.0 = (bytes_eq-Decides p.0 q.0).0 (tied_exponents p.0 q.0 ∙ ap is_eq f) in
        let number : p.1 ≡ q.1 = sym (own p ps) ∙ e p.0 ∙ ap (λ k. listed_at k (q ∷ qs)) key ∙ own q qs in
        let rest = more (same_rests p q ps qs key a.0 b.0 e) in
        λ i. (key i, number i) ∷ rest i

pub powers_are_one : PowersAreOne
powers_are_one ts ps qs f g = same_lists ps qs f.nonzero g.nonzero f.ascends g.ascends (λ es. f.each es ∙ sym (g.each es))
