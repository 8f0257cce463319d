-- Terms and names in order.
use Rattle.std.proofs.Common.{◌≡◌, ◌≤◌, ◌-◌, ◌==◌, min, ℕ, ℤ, List, filter, not, length, take, drop, All, sym, ap, ◌∙◌, arith}
use Rattle.std.specs.Prelude.{unsigned_abs}
use Rattle.std.specs.List.Sorted.{IsPermutation}
use Rattle.std.specs.Borrow.{Bor}
use Rattle.std.proofs.lemmas.List.{take_all, take-map, take_min, drop_min, drop-map, length-drop}
use Rattle.std.proofs.lemmas.List.Elements.{All-filter, All-map}
use Rattle.std.proofs.lemmas.List.Sorted.{All-permutation}
use Rattle.base_poly.specs.Plain.{Plain, degrees}
use Rattle.base_poly.specs.Poly.{Term, magnitudes}
use Rattle.explain_nested.specs.Text.{texts}

-- the terms that are not zero, in any order, have no greater degrees
pub low_terms : (ts : List (List Plain × ℤ)) (us : List Term) → IsPermutation (filter (λ t. not (t.1 == 0)) (magnitudes ts)) us →
    All (λ t. degrees t.0 ≤ 4) ts → All (λ t. degrees t.0 ≤ 4) us
low_terms ts us same h =
    All-permutation (λ t. degrees t.0 ≤ 4) _ us same
    (All-filter (λ (t : Term). not (t.1 == 0)) (λ t. degrees t.0 ≤ 4) (magnitudes ts) (All-map (λ t. degrees t.0 ≤ 4) (λ t. (t.0, unsigned_abs t.1)) ts h))

pub front_is : (names : List (Bor (List ℕ))) (count k : ℕ) → k ≡ min count (length names) → texts (take k names) ≡ take count (texts names)
front_is names count k h =
    ap (λ n. texts (take n names)) h ∙ ap texts (take_min count names) ∙ sym (take-map (λ (text : Bor (List ℕ)). text.now) count names)

pub behind_is : (names : List (Bor (List ℕ))) (count k : ℕ) → k ≡ min count (length names) → texts (take (length names - k) (drop k names)) ≡ drop count (texts names)
behind_is names count k h =
    let long = length-drop k names in
    ap texts (take_all (length names - k) (drop k names) (omega (arith, long)) ∙ ap (λ n. drop n names) h ∙ drop_min count names)
    ∙ sym (drop-map (λ (text : Bor (List ℕ)). text.now) count names)
