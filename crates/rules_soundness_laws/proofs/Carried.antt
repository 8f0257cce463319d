-- Annotations that are carried from one context to another, compared, and paid from.
use Rattle.std.proofs.Common.{◌≡◌, ◌≤◌, ℕ, ◌+◌, ◌*◌, List, [], ◌∷◌, map, length, refl, ◌∙◌, arith}
use Rattle.raml_syntax.specs.Tree.{Type'}
use Rattle.raml_syntax.specs.Value.{Value, HaveTypes}
use Rattle.base_poly.specs.Plain.{Plain}
use Rattle.base_poly.specs.Indices.{AreIndices, index_list, zero_of}
use Rattle.base_poly.specs.Base.{bases, total}
use Rattle.base_poly.proofs.Among.{Among, among_contains, contains_among}
use Rattle.base_poly.proofs.Exact.{exact}
use Rattle.base_poly.proofs.Only.{indices_are_listed}
use Rattle.base_poly.proofs.Recursion.{zero_one}
use Rattle.index_shift.specs.Potential.{Annotation, weighed, potential}
use Rattle.index_shift.specs.Maps.{Carry}
use Rattle.index_shift.specs.Contexts.{permutation, permutes}
use Rattle.index_shift.proofs.Brought.{Each, each_weaker, each_among, weighed_same, carried_worth}
use Rattle.index_shift.proofs.Carried.{Fits, as_long}
use Rattle.index_shift.proofs.Permuted.{are_permuted, permutation_degrees, permutation_bases}
use Rattle.annot_types.specs.Carried.{Covers, less, more, carried, to}
use Rattle.rules_soundness_laws.proofs.Weighed.{weighed_covers, weighed_less, weighed_more, weighed_first}

pub listed : (As : List Type') (d : ℕ) (t : List Plain) → Among t (index_list As d) → Fits As d t
listed As d t m = ((exact As d).exactly t).0 (among_contains t (index_list As d) m)

pub all_fit : (As : List Type') (d : ℕ) → Each (Fits As d) (index_list As d)
all_fit As d = each_among _ (index_list As d) (listed As d)

-- what is carried is worth what the tuples are carried to
pub carried_is : (c : Carry) (As : List Type') (b : ℕ) (Bs : List Type') (d : ℕ) → ((t : List Plain) → Fits As b t → Each (λ e. Fits Bs d e.0) (c t)) →
    (f : List Plain → ℕ) (q : Annotation) → weighed f (index_list Bs d) (carried c As b Bs d q) ≡ weighed (λ t. total (λ e. e.1 * f e.0) (c t)) (index_list As b) q
carried_is c As b Bs d fits f q =
    carried_worth f (index_list Bs d) q c (index_list As b) (each_among _ (index_list As b) (λ t m.
    each_weaker (λ e. Fits Bs d e.0) (λ e. Among e.0 (index_list Bs d)) (c t)
    (λ e g. contains_among e.0 (index_list Bs d) (((exact Bs d).exactly e.0).1 g)) (fits t (listed As b t m))))

-- each tuple to one tuple, at two budgets
module _ (make : List Plain → List Plain) (As : List Type') (b : ℕ) (Bs : List Type') (d : ℕ) (fits : (t : List Plain) → Fits As b t → Fits Bs d (make t)) where
  pub to_is : (f : List Plain → ℕ) (q : Annotation) → weighed f (index_list Bs d) (carried (to make) As b Bs d q) ≡ weighed (λ t. f (make t)) (index_list As b) q
  to_is f q =
      carried_is (to make) As b Bs d (λ t h. (fits t h, tt)) f q
      ∙ weighed_same _ _ (index_list As b) q (each_among _ (index_list As b) (λ t m. once (f (make t))))
    where
      once : (n : ℕ) → 1 * n + 0 ≡ n
      once n = grind arith

  pub to_keeps : (vs ws : List Value) → ((t : List Plain) → AreIndices t As → bases (make t) ws ≡ bases t vs) → (q : Annotation) →
      potential Bs d (carried (to make) As b Bs d q) ws ≡ potential As b q vs
  to_keeps vs ws h q = to_is (λ t. bases t ws) q ∙ weighed_same _ _ (index_list As b) q (each_among _ (index_list As b) (λ t m. h t (listed As b t m).0))

-- the variables in another order
pub permuting_keeps : (ks : List ℕ) (As : List Type') (vs : List Value) → length ks ≡ length As → length vs ≡ length As → (b d : ℕ) → b ≤ d → (q : Annotation) →
    potential (permutation ks As) d (carried (permutes ks) As b (permutation ks As) d q) (permutation ks vs) ≡ potential As b q vs
permuting_keeps ks As vs long all b d low q =
    to_keeps (permutation ks) As b (permutation ks As) d
    (λ t h. let same = as_long t As h.0 in
    (are_permuted ks t As long h.0, (let degree = permutation_degrees ks t (omega (arith, long, same)) in let few = h.1 in omega (arith, degree, few, low))))
    vs (permutation ks vs)
    (λ t h. let same = as_long t As h in permutation_bases ks t vs (omega (arith, long, same)) (omega (arith, all, same))) q

pub zeros_worth : (As : List Type') (vs : List Value) → HaveTypes vs As → bases (map zero_of As) vs ≡ 1
zeros_worth [] [] h = refl
zeros_worth [] (v ∷ vs) h = absurd h
zeros_worth (A ∷ As) [] h = absurd h
zeros_worth (A ∷ As) (v ∷ vs) h = let one = zero_one A v h.0 in let rest = zeros_worth As vs h.1 in grind (arith, one, rest)

pub covers_less : (As : List Type') (d : ℕ) (vs : List Value) (q r : Annotation) → Covers As d q r → potential As d r vs ≤ potential As d q vs
covers_less As d vs q r c = weighed_covers (λ t. bases t vs) (index_list As d) q r c

module _ (As : List Type') (d : ℕ) (vs : List Value) (h : HaveTypes vs As) where
  pub pays : (n : ℕ) (q : Annotation) → n ≤ q 0 → potential As d q vs ≡ n + potential As d (less n q) vs
  pays n q low = weighed_less (λ t. bases t vs) (map zero_of As) (zeros_worth As vs h) (index_list As d) n q (indices_are_listed.first As d) low

  pub pays_back : (n : ℕ) (q : Annotation) → potential As d (more n q) vs ≡ n + potential As d q vs
  pays_back n q = weighed_more (λ t. bases t vs) (map zero_of As) (zeros_worth As vs h) (index_list As d) n q (indices_are_listed.first As d)

  pub first_less : (q : Annotation) → q 0 ≤ potential As d q vs
  first_less q = weighed_first (λ t. bases t vs) (map zero_of As) (zeros_worth As vs h) (index_list As d) q (indices_are_listed.first As d)
