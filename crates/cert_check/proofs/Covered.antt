-- When an annotation covers a target.
use Rattle.std.proofs.Common.{◌≡◌, refl, ap, sym, ◌∙◌, subst, arith}
use Rattle.std.specs.Prelude.{ℕ, zero, suc, ◌+◌, ◌≤◌, nat_lt, Bool, true, false, cond, ◌&&◌, List, [], ◌∷◌, slice_get, slice_index_or, None, Some}
use Rattle.std.specs.List.{position_from}
use Rattle.std.proofs.lemmas.Option.{none-some, same_Some, get_or_from_slice_get}
use Rattle.std.proofs.lemmas.Iterator.Adapters.{position_from-zero}
use Rattle.std.proofs.lemmas.Bool.{ltb-true, ltb-false}
use Rattle.raml_syntax.specs.Tree.{Type'}
use Rattle.base_poly.specs.Plain.{Plain, alike}
use Rattle.base_poly.specs.Indices.{index_list}
use Rattle.index_shift.specs.Potential.{Annotation}
use Rattle.cost_free.specs.Target.{Target, targets}
use Rattle.annot_types.specs.Holds.{number_of, number_at_tuple, CoversTarget}
use Rattle.cert_check.specs.Finds.{missing_from}
use Rattle.cert_check.specs.Covering.{has_from, has_all, IsReached, IsMissed}

from_place : (k : ℕ) (t : List Plain) (xs : List (List Plain)) (q : Annotation) → has_from k t xs q ≡ nat_lt 0 (number_of q (position_from (alike t) k xs))
from_place k t [] q = refl
from_place k t (x ∷ xs) q = by (alike t x) (from_place (k + 1) t xs q) where
  by : (b : Bool) → has_from (k + 1) t xs q ≡ nat_lt 0 (number_of q (position_from (alike t) (k + 1) xs)) →
      cond b (nat_lt 0 (q k)) (has_from (k + 1) t xs q) ≡ nat_lt 0 (number_of q (cond b (Some k) (position_from (alike t) (k + 1) xs)))
  by true h = refl
  by false h = h

has_is : (A : Type') (budget : ℕ) (t : List Plain) (q : Annotation) → has_from 0 t (index_list (A ∷ []) budget) q ≡ nat_lt 0 (number_at_tuple (A ∷ []) budget q t)
has_is A budget t q = from_place 0 t (index_list (A ∷ []) budget) q
    ∙ ap (λ o. nat_lt 0 (number_of q o)) (sym (position_from-zero (alike t) (index_list (A ∷ []) budget)))

all_covered : (A : Type') (budget : ℕ) (q : Annotation) (ts : Target) → has_all (index_list (A ∷ []) budget) q ts ≡ true → CoversTarget A budget q 1 ts
all_covered A budget q [] e = tt
all_covered A budget q (t ∷ ts) e = by (has_from 0 t (index_list (A ∷ []) budget) q) refl e (all_covered A budget q ts) where
  by : (b : Bool) → has_from 0 t (index_list (A ∷ []) budget) q ≡ b → (b && has_all (index_list (A ∷ []) budget) q ts) ≡ true →
      (has_all (index_list (A ∷ []) budget) q ts ≡ true → CoversTarget A budget q 1 ts) → CoversTarget A budget q 1 (t ∷ ts)
  by true h e k = (ltb-true 0 (number_at_tuple (A ∷ []) budget q t) (sym (has_is A budget t q) ∙ h), k e)
  by false h e k = absurd (cc)

not_covered : (A : Type') (budget : ℕ) (q : Annotation) (ts : Target) → has_all (index_list (A ∷ []) budget) q ts ≡ false → CoversTarget A budget q 1 ts → ⊥
not_covered A budget q [] e c = cc
not_covered A budget q (t ∷ ts) e c = by (has_from 0 t (index_list (A ∷ []) budget) q) refl e (λ e. not_covered A budget q ts e c.1) where
  by : (b : Bool) → has_from 0 t (index_list (A ∷ []) budget) q ≡ b → (b && has_all (index_list (A ∷ []) budget) q ts) ≡ false →
      (has_all (index_list (A ∷ []) budget) q ts ≡ false → ⊥) → ⊥
  by true h e k = k e
  by false h e k =
      let none : number_at_tuple (A ∷ []) budget q t ≤ 0 = ltb-false 0 (number_at_tuple (A ∷ []) budget q t) (sym (has_is A budget t q) ∙ h) in
      omega (arith, none, c.0)

module _ (A : Type') (d budget number : ℕ) (q : Annotation) where
  pub reached : (target : Target) (tuples : List (List Plain)) → slice_get (targets A d) number ≡ Some target → tuples ≡ index_list (A ∷ []) budget →
      has_all tuples q target ≡ true → IsReached A d budget number q
  reached target tuples e h k = record {
    target = target;
    numbered = e;
    covers = all_covered A budget q target (ap (λ ts. has_all ts q target) (sym h) ∙ k);
  }

  pub missed : (target : Target) (tuples : List (List Plain)) (index : ℕ) → slice_get (targets A d) number ≡ Some target → tuples ≡ index_list (A ∷ []) budget →
      has_all tuples q target ≡ false → index ≡ missing_from 0 q target tuples → IsMissed A d budget number q index
  missed target tuples index e h k m = record {
    not_reached = λ r. not_covered A budget q target (ap (λ ts. has_all ts q target) (sym h) ∙ k)
        (subst (CoversTarget A budget q 1) (same_Some r.target target (sym r.numbered ∙ e)) r.covers);
    first = m ∙ (λ i. missing_from 0 q (sym (get_or_from_slice_get (targets A d) number target [] e) i) (h i));
  }

  pub not_there : slice_get (targets A d) number ≡ None → IsMissed A d budget number q 0
  not_there e = record {
    not_reached = λ r. none-some r.target (sym e ∙ r.numbered);
    first = sym (ap (λ t. missing_from 0 q t (index_list (A ∷ []) budget)) (none_there (targets A d) number e) ∙ none_missing 0 (index_list (A ∷ []) budget));
  } where
    none_there : (ts : List Target) (k : ℕ) → slice_get ts k ≡ None → slice_index_or ts k [] ≡ []
    none_there [] k e = refl
    none_there (t ∷ ts) zero e = absurd (none-some t (sym e))
    none_there (t ∷ ts) (suc k) e = none_there ts k e

    none_missing : (k : ℕ) (ts : List (List Plain)) → missing_from k q [] ts ≡ 0
    none_missing k [] = refl
    none_missing k (t ∷ ts) = none_missing (k + 1) ts
