-- Rows that are tied, found one after the other.
use Rattle.std.proofs.Common.{◌≡◌, refl, sym, ap, subst, ◌∙◌, ℕ, pos, ◌*ℤ◌, List, [], ◌∷◌, ◌++◌, inl, inr}
use Rattle.std.proofs.lemmas.Cmp.{int_ranked}
use Rattle.std.specs.Ordering.{ordering_reverse}
use Rattle.std.specs.declared.cmp.Ordering.{Ordering}
use Rattle.std.specs.declared.cmp.Ordering.TheVariants.{Less, Equal, Greater}
use Rattle.frac128.specs.declared.Frac.{Frac}
use Rattle.frac128.specs.Order.{order_of, order_is_total, same_parts}
use Rattle.simplex_rows.specs.Entries.{Entries}
use Rattle.simplex.proofs.Rows.{among_front, among_last, among_either, differ_front, differ_last, differ_more, among_or_not}
use Rattle.simplex.specs.Among.{Among}
use Rattle.simplex.specs.Ties.{IsRatio, AreTied, Keeps, KeepsBy}

-- the ratio that comes
ratio_same : (s c : ℕ) (rows : List Entries) (i : ℕ) (x y : Frac) → x.num ≡ y.num → x.den ≡ y.den → IsRatio s c rows i x → IsRatio s c rows i y
ratio_same s c rows i x y e f r = rw (← e, ← f) r

equal_parts : (x y : Frac) → order_of x y ≡ Equal → (x.num ≡ y.num) × (x.den ≡ y.den)
equal_parts x y e = same_parts x y (int_ranked (x.num *ℤ pos y.den) (y.num *ℤ pos x.den) Equal (sym e))

module _ (s c : ℕ) (rows : List Entries) (among tied : List ℕ) (least : Frac) (t : AreTied s c rows among tied least) (i : ℕ) (x : Frac) (r : IsRatio s c rows i x) where
  alone : ((j : ℕ) → Among j among → (y : Frac) × IsRatio s c rows j y × (order_of x y ≡ Less)) → AreTied s c rows (among ++ i ∷ []) (i ∷ []) x
  alone less = record {
    subset = λ j a. elim a [ inl e ↦ subst (λ (z : ℕ). Among z (among ++ i ∷ [])) (sym e) (among_last i among) | inr b ↦ absurd b ];
    least_ratio = λ j a. elim a [ inl e ↦ subst (λ (z : ℕ). IsRatio s c rows z x) (sym e) r | inr b ↦ absurd b ];
    greater = λ j a n. elim (among_either j among i a) [ inl b ↦ less j b | inr e ↦ absurd (n (inl e)) ];
    some = λ j a. (i, inl refl);
    differ = λ d. ((λ a. a), tt);
  }

  less_than_all : order_of x least ≡ Less → (j : ℕ) → Among j among → (y : Frac) × IsRatio s c rows j y × (order_of x y ≡ Less)
  less_than_all e j a = elim (among_or_not j tied) [
    | inl b ↦ (least, t.least_ratio j b, e)
    | inr n ↦ let g = t.greater j a n in (g.0, g.1, order_is_total.trans x least g.0 e g.2)
  ]

  joins : order_of x least ≡ Equal → AreTied s c rows (among ++ i ∷ []) (tied ++ i ∷ []) least
  joins e = let p = equal_parts x least e in record {
    subset = λ j a. elim (among_either j tied i a) [ inl b ↦ among_front j among (i ∷ []) (t.subset j b) | inr q ↦ subst (λ (z : ℕ). Among z (among ++ i ∷ [])) (sym q) (among_last i among) ];
    least_ratio = λ j a. elim (among_either j tied i a) [ inl b ↦ t.least_ratio j b | inr q ↦ subst (λ (z : ℕ). IsRatio s c rows z least) (sym q) (ratio_same s c rows i x least p.0 p.1 r) ];
    greater = λ j a n. elim (among_either j among i a) [
      | inl b ↦ t.greater j b (λ d. n (among_front j tied (i ∷ []) d))
      | inr q ↦ absurd (n (subst (λ (z : ℕ). Among z (tied ++ i ∷ [])) (sym q) (among_last i tied)))
    ];
    some = λ j a. (i, among_last i tied);
    differ = λ d. differ_more tied i (t.differ (differ_front among i d)) (λ a. differ_last among i d (t.subset i a));
  }

  stays_out : (k : ℕ) → Among k tied → order_of x least ≡ Greater → AreTied s c rows (among ++ i ∷ []) tied least
  stays_out k b e = record {
    subset = λ j a. among_front j among (i ∷ []) (t.subset j a);
    least_ratio = t.least_ratio;
    greater = λ j a n. elim (among_either j among i a) [
      | inl d ↦ t.greater j d n
      | inr q ↦ (x, subst (λ (z : ℕ). IsRatio s c rows z x) (sym q) r, order_is_total.antisymm least x ∙ ap ordering_reverse e)
    ];
    some = λ j a. (k, b);
    differ = λ d. t.differ (differ_front among i d);
  }

  kept_by : (o : Ordering) → o ≡ order_of x least → (k : ℕ) → Among k tied → (new : List ℕ) (new_least : Frac) → KeepsBy o tied least i x new new_least → AreTied s c rows (among ++ i ∷ []) new new_least
  kept_by Less e k b new new_least h = subst (λ (z : Frac). AreTied s c rows (among ++ i ∷ []) new z) (sym h.1) (subst (λ (is : List ℕ). AreTied s c rows (among ++ i ∷ []) is x) (sym h.0) (alone (less_than_all (sym e))))
  kept_by Equal e k b new new_least h = subst (λ (z : Frac). AreTied s c rows (among ++ i ∷ []) new z) (sym h.1) (subst (λ (is : List ℕ). AreTied s c rows (among ++ i ∷ []) is least) (sym h.0) (joins (sym e)))
  kept_by Greater e k b new new_least h = subst (λ (z : Frac). AreTied s c rows (among ++ i ∷ []) new z) (sym h.1) (subst (λ (is : List ℕ). AreTied s c rows (among ++ i ∷ []) is least) (sym h.0) (stays_out k b (sym e)))

pub tied_more : (s c : ℕ) (rows : List Entries) (among tied : List ℕ) (least : Frac) (i : ℕ) (x : Frac) (new : List ℕ) (new_least : Frac) → AreTied s c rows among tied least → IsRatio s c rows i x → Keeps tied least i x new new_least
    → AreTied s c rows (among ++ i ∷ []) new new_least
tied_more s c rows among [] least i x new new_least t r h =
    subst (λ (z : Frac). AreTied s c rows (among ++ i ∷ []) new z) (sym h.1)
    (subst (λ (is : List ℕ). AreTied s c rows (among ++ i ∷ []) is x) (sym h.0) (alone s c rows among [] least t i x r (λ j a. absurd ((t.some j a).1))))
tied_more s c rows among (k ∷ ks) least i x new new_least t r h = kept_by s c rows among (k ∷ ks) least t i x r (order_of x least) refl k (inl refl) new new_least h

pub none_tied : (s c : ℕ) (rows : List Entries) (least : Frac) → AreTied s c rows [] [] least
none_tied s c rows least = record { subset = λ i a. a; least_ratio = λ i a. absurd a; greater = λ i a n. absurd a; some = λ i a. absurd a; differ = λ d. d }
