-- Coefficients with the tuples at their positions.
use Rattle.std.proofs.Common.{◌≡◌, ◌<◌, ℕ, ℤ, List, [], ◌∷◌, ◌++◌, map, length, sym, ap, ◌∙◌, subst}
use Rattle.std.specs.Prelude.{slice_index_or, unsigned_abs}
use Rattle.std.proofs.lemmas.List.{append-nil, append_assoc}
use Rattle.base_poly.specs.Plain.{Plain}
use Rattle.base_poly.proofs.Ordered.{same_at}
use Rattle.bound_file.specs.Lines.{AreBelow}
use Rattle.bound_file.specs.Read.{coefficients_of}
use Rattle.explain_verdicts.specs.Fractions.{fraction_at}
use Rattle.explain_verdicts.specs.declared.fraction.Fraction.{Fraction}

abbrev Entry : Type 0
Entry = ℕ × ℤ × ℤ

abbrev placed : List (List Plain) → List Entry → List Fraction
placed tuples cs = map (fraction_at tuples) (coefficients_of cs)

-- What holds in the loop: the fractions so far, with those to come, are all.
pub record IsPlacing (tuples : List (List Plain)) (all left : List Entry) (items : List Fraction) : Type 0 where
  pub made : items ++ placed tuples left ≡ placed tuples all
  pub below : AreBelow (length tuples) (coefficients_of left)

-- the first of those to come has a tuple
pub first_below : (tuples : List (List Plain)) (all left later : List Entry) (items : List Fraction) (c : Entry) → left ≡ c ∷ later → IsPlacing tuples all left items → c.0 < length tuples
first_below tuples all left later items c is h = (subst (λ cs. AreBelow (length tuples) (coefficients_of cs)) is h.below).0

pub next_placed : (tuples : List (List Plain)) (all left later : List Entry) (items now : List Fraction) (c : Entry) (t u : List Plain) (n m : ℕ) → left ≡ c ∷ later →
    t ≡ slice_index_or tuples c.0 u → n ≡ unsigned_abs c.1 → m ≡ unsigned_abs c.2 → now ≡ items ++ (record { tuple = t; numerator = n; denominator = m }) ∷ [] →
    IsPlacing tuples all left items → IsPlacing tuples all later now
next_placed tuples all left later items now c t u n m is tuple numerator denominator pushed h =
    let below = subst (λ cs. AreBelow (length tuples) (coefficients_of cs)) is h.below in
    let here : t ≡ slice_index_or tuples c.0 [] = tuple ∙ same_at tuples c.0 u [] below.0 in
    record {
      made = ap (λ fs. fs ++ placed tuples later) pushed ∙ append_assoc items ((record { tuple = t; numerator = n; denominator = m }) ∷ []) (placed tuples later)
          ∙ (λ i. items ++ (record { tuple = here i; numerator = numerator i; denominator = denominator i }) ∷ placed tuples later)
          ∙ ap (λ cs. items ++ placed tuples cs) (sym is) ∙ h.made;
      below = below.1;
    }

pub all_placed : (tuples : List (List Plain)) (all left : List Entry) (items : List Fraction) → left ≡ [] → IsPlacing tuples all left items → items ≡ placed tuples all
all_placed tuples all left items is h = sym (append-nil items) ∙ ap (λ cs. items ++ placed tuples cs) (sym is) ∙ h.made
