-- Terms that exceed, one after the other.
use Rattle.std.proofs.Common.{◌≡◌, ◌<◌, ◌+◌, ◌-◌, ℕ, zero, suc, ℤ, Bool, true, false, cond, List, [], ◌∷◌, ◌++◌, length, take, reverse, filter, map, codes, refl, sym, ap, ◌∙◌, subst, arith}
use Rattle.std.specs.Prelude.{slice_index_or, unsigned_abs}
use Rattle.std.proofs.Math.Seq.{take-suc}
use Rattle.std.proofs.lemmas.List.{append-nil, append_assoc, length-map, reverse-append}
use Rattle.raml_syntax.specs.Tree.{Text, Type'}
use Rattle.base_poly.specs.Plain.{Plain}
use Rattle.base_poly.specs.Poly.{Term, magnitudes}
use Rattle.explain_algebra.specs.Algebra.{joined, led}
use Rattle.explain_verdicts.specs.Reads.{Bound}
use Rattle.explain_verdicts.specs.Exceeding.{alone, declared_at, exceeds, AreExcesses, TellsExcess}
use Rattle.explain_verdicts.specs.declared.fraction.Fraction.{Fraction}

abbrev comma : Text
comma = codes ", "

led_more : (mark : Text) (ts : List Text) (t : Text) → led mark (ts ++ t ∷ []) ≡ led mark ts ++ (mark ++ t)
led_more mark [] t = ap (λ rest. mark ++ rest) (append-nil t)
led_more mark (x ∷ ts) t =
    ap (λ rest. mark ++ (x ++ rest)) (led_more mark ts t) ∙ ap (λ rest. mark ++ rest) (sym (append_assoc x (led mark ts) (mark ++ t)))
    ∙ sym (append_assoc mark (x ++ led mark ts) (mark ++ t))

-- what stands before the next text
abbrev pub lead : Bool → Text
lead is_first = cond is_first [] comma

abbrev pub is_none : List Text → Bool
is_none [] = true
is_none (t ∷ ts) = false

pub joined_more : (ts : List Text) (t : Text) → joined comma (ts ++ t ∷ []) ≡ joined comma ts ++ (lead (is_none ts) ++ t)
joined_more [] t = append-nil t
joined_more (x ∷ ts) t = ap (λ rest. x ++ rest) (led_more comma ts t) ∙ sym (append_assoc x (led comma ts) (comma ++ t))

is_none_more : (ts : List Text) (t : Text) → is_none (ts ++ t ∷ []) ≡ false
is_none_more [] t = refl
is_none_more (x ∷ ts) t = refl

module _ (As : List Type') (params : List Text) (fs : List Fraction) (den : ℕ) where
  -- those of the terms that exceed
  abbrev pub chosen : List Term → List Term
  chosen ts = filter (λ t. exceeds den t.1 (declared_at t.0 fs)) ts

  -- The texts so far are those of the terms before these, whatever is told of these.
  pub record AreSoFar (all left : List Term) (is_first : Bool) (old text : Text) : Type 0 where
    pub made : List Text
    pub are : (texts : List Text) → AreExcesses As params fs den (chosen left) texts → AreExcesses As params fs den (chosen all) (made ++ texts)
    pub first : is_first ≡ is_none made
    pub is : text ≡ old ++ joined comma made

  pub none_yet : (all : List Term) (old text : Text) → text ≡ old → AreSoFar all all true old text
  none_yet all old text is = record { made = []; are = λ texts are. are; first = refl; is = is ∙ sym (append-nil old) }

  -- a term that does not exceed
  pub passed : (all left later : List Term) (t : Term) (is_first : Bool) (old text : Text) → left ≡ t ∷ later → exceeds den t.1 (declared_at t.0 fs) ≡ false →
      AreSoFar all left is_first old text → AreSoFar all later is_first old text
  passed all left later t is_first old text is small h = record {
    made = h.made;
    are = λ texts are. h.are texts (subst (λ ts. AreExcesses As params fs den ts texts)
        (sym (ap chosen is ∙ ap (λ b. cond b (t ∷ chosen later) (chosen later)) small)) are);
    first = h.first;
    is = h.is;
  }

  -- one that does
  pub told : (all left later : List Term) (t : Term) (is_first : Bool) (old text led shown new : Text) → left ≡ t ∷ later → exceeds den t.1 (declared_at t.0 fs) ≡ true →
      led ≡ text ++ lead is_first → TellsExcess As params (alone den t) (declared_at t.0 fs) shown → new ≡ led ++ shown →
      AreSoFar all left is_first old text → AreSoFar all later false old new
  told all left later t is_first old text led shown new is big led_is tells new_is h = record {
    made = h.made ++ shown ∷ [];
    are = λ texts are. subst (AreExcesses As params fs den (chosen all)) (sym (append_assoc h.made (shown ∷ []) texts))
        (h.are (shown ∷ texts) (subst (λ ts. AreExcesses As params fs den ts (shown ∷ texts))
        (sym (ap chosen is ∙ ap (λ b. cond b (t ∷ chosen later) (chosen later)) big)) (tells, are)));
    first = sym (is_none_more h.made shown);
    is = new_is ∙ ap (λ text. text ++ shown) (led_is ∙ (λ i. h.is i ++ lead (h.first i)))
        ∙ append_assoc (old ++ joined comma h.made) (lead (is_none h.made)) shown
        ∙ append_assoc old (joined comma h.made) (lead (is_none h.made) ++ shown)
        ∙ ap (λ rest. old ++ rest) (sym (joined_more h.made shown));
  }

  pub record AreAll (all : List Term) (old text : Text) : Type 0 where
    pub texts : List Text
    pub are : AreExcesses As params fs den (chosen all) texts
    pub is : text ≡ old ++ joined comma texts

  pub all_told : (all left : List Term) (is_first : Bool) (old text : Text) → left ≡ [] → AreSoFar all left is_first old text → AreAll all old text
  all_told all left is_first old text is h = record {
    texts = h.made;
    are = subst (AreExcesses As params fs den (chosen all)) (append-nil h.made)
        (h.are [] (subst (λ ts. AreExcesses As params fs den (chosen ts) []) (sym is) tt));
    is = h.is;
  }

-- ---- terms from the last to the first

at_magnitude : (items : List (List Plain × ℤ)) (i : ℕ) (x : List Plain × ℤ) (d : Term) → x ≡ slice_index_or items i x → i < length items →
    slice_index_or (magnitudes items) i d ≡ (x.0, unsigned_abs x.1)
at_magnitude [] i x d is below = absurd (omega (arith, below))
at_magnitude (y ∷ items) zero x d is below = ap (λ (y : List Plain × ℤ). (y.0, unsigned_abs y.1)) (sym is)
at_magnitude (y ∷ items) (suc i) x d is below = at_magnitude items i x d is (omega (arith, below))

pub next_left : (items : List (List Plain × ℤ)) (n : ℕ) (x : List Plain × ℤ) → 0 < n → n - 1 < length items → x ≡ slice_index_or items (n - 1) x →
    reverse (take n (magnitudes items)) ≡ (x.0, unsigned_abs x.1) ∷ reverse (take (n - 1) (magnitudes items))
next_left items zero x some below is = absurd (omega (arith, some))
next_left items (suc i) x some below is =
    let same : suc i - 1 ≡ i = omega arith in
    let low : i < length items = omega (arith, below) in
    let magnitude : List Plain × ℤ → Term = λ t. (t.0, unsigned_abs t.1) in
    let long = length-map items magnitude in
    let here : x ≡ slice_index_or items i x = subst (λ k. x ≡ slice_index_or items k x) same is in
    let t : Term = (x.0, unsigned_abs x.1) in
    ap reverse (take-suc (magnitudes items) i t (omega (arith, low, long)) ∙ ap (λ y. take i (magnitudes items) ++ y ∷ []) (at_magnitude items i x t here low))
    ∙ reverse-append (take i (magnitudes items)) (t ∷ [])
    ∙ ap (λ k. t ∷ reverse (take k (magnitudes items))) (sym same)
