-- Fractions over one denominator are the terms of a polynomial.
use Rattle.std.proofs.Common.{◌≡◌, ◌≤◌, ◌<◌, ◌+◌, ◌*◌, ◌/◌, ◌^◌, ◌<ℤ◌, ◌≤ℤ◌, ℕ, zero, suc, ℤ, pos, List, [], ◌∷◌, ◌++◌, map, length, All, refl, sym, ap, ◌∙◌, subst, arith}
use Rattle.std.specs.Prelude.{slice_index_or, unsigned_abs, Contains}
use Rattle.std.specs.Global.{Vec}
use Rattle.std.specs.List.{IsDistinct}
use Rattle.std.proofs.lemmas.Int.{ints}
use Rattle.std.proofs.lemmas.List.{append-nil, append_assoc, map-append, length-map}
use Rattle.std.proofs.lemmas.List.Elements.{All-nil, All-cons, All-head, All-tail, All-push, All-weaker}
use Rattle.std.proofs.lemmas.Nat.{le-div}
use Rattle.std.proofs.lemmas.Nat.Gcd.{le_of_dvd}
use Rattle.std.proofs.Math.Nat.{div-mul-le_self, mul-le-mul_left}
use Rattle.base_poly.specs.Plain.{Plain, degrees, alike}
use Rattle.base_poly.specs.Poly.{Term, magnitudes}
use Rattle.explain_verdicts.specs.Fractions.{IsCommon, NoneFit, Fit, term_over, terms_over}
use Rattle.explain_verdicts.specs.Over.{IsLeastCommon, OneLeaves, IsOverOne}
use Rattle.explain_verdicts.specs.declared.fraction.Fraction.{Fraction}

-- the numerator over a denominator
abbrev number : ℕ → Fraction → ℕ
number den f = f.numerator * (den / f.denominator)

-- ---- term by term

-- What holds in the loop: the terms so far, with those to come, are all.
pub record IsMade (den : ℕ) (fs left : List Fraction) (items : List (List Plain × ℤ)) : Type 0 where
  pub made : magnitudes items ++ terms_over den left ≡ terms_over den fs
  pub natural : All (λ t. pos 0 ≤ℤ t.1) items
  pub below : All (λ t. t.1 < 2 ^ 127) (magnitudes items)

pub none_made : (den : ℕ) (fs : List Fraction) (items : List (List Plain × ℤ)) → items ≡ [] → IsMade den fs fs items
none_made den fs items is = subst (IsMade den fs fs) (sym is) (record { made = refl; natural = All-nil _; below = All-nil _ })

pub term_made : (den : ℕ) (fs left later : List Fraction) (items now : List (List Plain × ℤ)) (f : Fraction) (t : List Plain) (n : ℤ) → left ≡ f ∷ later → t ≡ f.tuple →
    n ≡ pos (number den f) → number den f < 2 ^ 127 → now ≡ items ++ (t, n) ∷ [] → IsMade den fs left items → IsMade den fs later now
term_made den fs left later items now f t n left_is tuple_is number_is below is h =
    let magnitude : unsigned_abs n ≡ number den f = ap unsigned_abs number_is in
    let nows : magnitudes now ≡ magnitudes items ++ (t, unsigned_abs n) ∷ [] = ap magnitudes is ∙ map-append (λ (t : List Plain × ℤ). (t.0, unsigned_abs t.1)) items ((t, n) ∷ []) in
    record {
      made = ap (λ ts. ts ++ terms_over den later) nows ∙ append_assoc (magnitudes items) ((t, unsigned_abs n) ∷ []) (terms_over den later)
          ∙ (λ i. magnitudes items ++ (tuple_is i, magnitude i) ∷ terms_over den later) ∙ ap (λ fs. magnitudes items ++ terms_over den fs) (sym left_is) ∙ h.made;
      natural = subst (All (λ t. pos 0 ≤ℤ t.1)) (sym is) (All-push (λ t. pos 0 ≤ℤ t.1) items (t, n) h.natural (subst (λ n. pos 0 ≤ℤ n) (sym number_is) (omega (arith, ints))));
      below = subst (All (λ t. t.1 < 2 ^ 127)) (sym nows) (All-push (λ t. t.1 < 2 ^ 127) (magnitudes items) (t, unsigned_abs n) h.below (subst (λ k. k < 2 ^ 127) (sym magnitude) below));
    }

pub all_made : (den : ℕ) (fs left : List Fraction) (items : List (List Plain × ℤ)) → left ≡ [] → IsMade den fs left items → magnitudes items ≡ terms_over den fs
all_made den fs left items is h = sym (append-nil (magnitudes items)) ∙ ap (λ fs. magnitudes items ++ terms_over den fs) (sym is) ∙ h.made

pub all_below : (den : ℕ) (fs left : List Fraction) (items : List (List Plain × ℤ)) → left ≡ [] → IsMade den fs left items → All (λ t. t.1 < 2 ^ 127) (terms_over den fs)
all_below den fs left items is h = subst (All (λ t. t.1 < 2 ^ 127)) (all_made den fs left items is h) h.below

-- ---- a number that is too great

map_at : (den : ℕ) (fs : List Fraction) (i : ℕ) (f : Fraction) (t : Term) → f ≡ slice_index_or fs i f → i < length fs → slice_index_or (terms_over den fs) i t ≡ term_over den f
map_at den [] i f t is below = absurd (omega (arith, below))
map_at den (g ∷ fs) zero f t is below = ap (term_over den) (sym is)
map_at den (g ∷ fs) (suc i) f t is below = map_at den fs i f t is (omega (arith, below))

pub one_leaves : (den : ℕ) (fs : List Fraction) (i : ℕ) (f : Fraction) → f ≡ slice_index_or fs i f → i < length fs → 2 ^ 127 ≤ number den f → OneLeaves den fs
one_leaves den fs i f is below big =
    let long = length-map fs (term_over den) in
    (term_over den f, (i, omega (arith, below, long), map_at den fs i f (term_over den f) is below), big)

greater : (f : Fraction) (den other : ℕ) → 0 < f.denominator → den ≤ other → number den f ≤ number other f
greater f den other positive less =
    let part = div-mul-le_self den f.denominator in
    mul-le-mul_left f.numerator (le-div (den / f.denominator) other f.denominator positive (omega (arith, part, less)))

leaves_too : (fs : List Fraction) (den other : ℕ) → All (λ f. 0 < f.denominator) fs → den ≤ other → (i : ℕ) (t : Term) → i < length (terms_over den fs) → slice_index_or (terms_over den fs) i t ≡ t →
    2 ^ 127 ≤ t.1 → All (λ t. t.1 < 2 ^ 127) (terms_over other fs) → ⊥
leaves_too [] den other positive less i t below is big small = omega (arith, below)
leaves_too (f ∷ fs) den other positive less zero t below is big small =
    let first = All-head (λ t. t.1 < 2 ^ 127) (term_over other f) (terms_over other fs) small in
    let more = greater f den other (All-head (λ f. 0 < f.denominator) f fs positive) less in
    let same : number den f ≡ t.1 = ap (λ (t : Term). t.1) is in
    omega (arith, first, more, same, big)
leaves_too (f ∷ fs) den other positive less (suc i) t below is big small =
    leaves_too fs den other (All-tail (λ f. 0 < f.denominator) f fs positive) less i t (omega (arith, below)) is big (All-tail (λ t. t.1 < 2 ^ 127) (term_over other f) (terms_over other fs) small)

pub number_leaves : (fs : List Fraction) (den : ℕ) → All (λ f. 0 < f.denominator) fs → IsLeastCommon fs den → OneLeaves den fs → NoneFit fs
number_leaves fs den positive h one other common fit =
    leaves_too fs den other positive (le_of_dvd fit.positive (h.least other common)) one.1.0 one.0 one.1.1 one.1.2 one.2 fit.numbers

pub denominator_leaves : (fs : List Fraction) (den : ℕ) → IsLeastCommon fs den → 2 ^ 127 ≤ den → NoneFit fs
denominator_leaves fs den h big other common fit =
    let less = le_of_dvd fit.positive (h.least other common) in
    let below = fit.below in
    omega (arith, less, below, big)

-- ---- the polynomial

tuples_over : (den : ℕ) (fs : List Fraction) → map (λ (t : Term). t.0) (terms_over den fs) ≡ map (λ (f : Fraction). f.tuple) fs
tuples_over den [] = refl
tuples_over den (f ∷ fs) = ap (λ ts. f.tuple ∷ ts) (tuples_over den fs)

tuples_in : (items : List (List Plain × ℤ)) → map (λ (t : Term). t.0) (magnitudes items) ≡ map (λ (t : List Plain × ℤ). t.0) items
tuples_in [] = refl
tuples_in (t ∷ items) = ap (λ ts. t.0 ∷ ts) (tuples_in items)

pub same_tuples : (den : ℕ) (fs : List Fraction) (items : List (List Plain × ℤ)) → magnitudes items ≡ terms_over den fs → map (λ (t : List Plain × ℤ). t.0) items ≡ map (λ (f : Fraction). f.tuple) fs
same_tuples den fs items made = sym (tuples_in items) ∙ ap (map (λ (t : Term). t.0)) made ∙ tuples_over den fs

of_tuples : (P : List Plain → Type 0) (items : List (List Plain × ℤ)) → All P (map (λ (t : List Plain × ℤ). t.0) items) → All (λ t. P t.0) items
of_tuples P [] h = All-nil _
of_tuples P (t ∷ items) h =
    All-cons (λ t. P t.0) t items (All-head P t.0 (map (λ (t : List Plain × ℤ). t.0) items) h) (of_tuples P items (All-tail P t.0 (map (λ (t : List Plain × ℤ). t.0) items) h))

in_tuples : (P : List Plain → Type 0) (fs : List Fraction) → All (λ f. P f.tuple) fs → All P (map (λ (f : Fraction). f.tuple) fs)
in_tuples P [] h = All-nil P
in_tuples P (f ∷ fs) h = All-cons P f.tuple (map (λ (f : Fraction). f.tuple) fs) (All-head (λ f. P f.tuple) f fs h) (in_tuples P fs (All-tail (λ f. P f.tuple) f fs h))

-- what is so of the fractions' tuples is so of the terms'
pub all_terms : (P : List Plain → Type 0) (den : ℕ) (fs : List Fraction) (items : List (List Plain × ℤ)) → magnitudes items ≡ terms_over den fs → All (λ f. P f.tuple) fs → All (λ t. P t.0) items
all_terms P den fs items made h = of_tuples P items (subst (All P) (sym (same_tuples den fs items made)) (in_tuples P fs h))

pub is_over_one : (fs : List Fraction) (den : ℕ) (z : ℤ) (terms : Vec (List Plain × ℤ)) → z ≡ pos den → den < 2 ^ 127 → IsLeastCommon fs den → magnitudes terms.items ≡ terms_over den fs →
    All (λ t. pos 0 ≤ℤ t.1) terms.items → All (λ t. t.1 < 2 ^ 127) (terms_over den fs) → All (λ f. degrees f.tuple ≤ 4) fs → IsDistinct alike (map (λ f. f.tuple) fs) →
    IsOverOne fs (record { den = z; terms = terms })
is_over_one fs den z terms is below least made natural small low distinct =
    subst (λ z. IsOverOne fs (record { den = z; terms = terms })) (sym is)
    (record {
      common = least.common;
      fit = record { positive = least.positive; below = below; numbers = small };
      is = λ i. record { den = den; terms = made i };
      polynomial = record {
        positive = let positive = least.positive in omega (arith, ints, positive);
        terms = record {
          natural = natural;
          low = All-weaker (λ t. degrees t.0 ≤ 4) (λ t. degrees t.0 < 2 ^ 32) (λ t h. omega (arith, h)) terms.items (all_terms (λ t. degrees t ≤ 4) den fs terms.items made low);
          distinct = subst (IsDistinct alike) (sym (same_tuples den fs terms.items made)) distinct;
        };
      };
    })
