-- Entries one after the other.
use Rattle.std.proofs.Common.{◌≡◌, ◌<◌, ◌+◌, ℕ, zero, suc, ℤ, pos, cond, false, List, [], ◌∷◌, ◌++◌, map, drop, length, slice_index_or, refl, sym, ap, ◌∙◌, subst, arith}
use Rattle.std.proofs.lemmas.Int.{ints}
use Rattle.std.specs.Ordering.{int_eq}
use Rattle.std.proofs.lemmas.Bool.Decides.{nat_tests}
use Rattle.annot_types.specs.Certificate.{Entries}
use Rattle.infer_spec.specs.Listed.{listed}
use Rattle.bound_infer.specs.Entry.{entry}

not_zero : (n : ℕ) → int_eq (pos (suc n)) (pos 0) ≡ false
not_zero n = grind (arith, ints, nat_tests)

-- the first number's entry comes before those of the rest
first_entry : (place y : ℕ) (ys : List ℕ) → listed place (y ∷ ys) ≡ entry place (pos y) ++ listed (place + 1) ys
first_entry place zero ys = refl
first_entry place (suc n) ys = λ i. cond (sym (not_zero n) i) [] ((place, pos (suc n)) ∷ []) ++ listed (place + 1) ys

append_assoc : (xs ys zs : Entries) → (xs ++ ys) ++ zs ≡ xs ++ (ys ++ zs)
append_assoc [] ys zs = refl
append_assoc (x ∷ xs) ys zs = ap (λ es. x ∷ es) (append_assoc xs ys zs)

-- the number at a place, and those behind it
at_place : (ys : List ℕ) (place : ℕ) (d : ℤ) → place < length (map pos ys) → (y : ℕ) × (drop place ys ≡ y ∷ drop (suc place) ys) × (slice_index_or (map pos ys) place d ≡ pos y)
at_place [] place d l = absurd (omega (arith, l))
at_place (y ∷ ys) zero d l = (y, refl, refl)
at_place (y ∷ ys) (suc place) d l = at_place ys place d (omega (arith, l))

pub one_more : (ys : List ℕ) (vector : List ℤ) (place : ℕ) (d : ℤ) (before new : Entries) → place < length vector → vector ≡ map pos ys →
    new ≡ before ++ entry place (slice_index_or vector place d) → before ++ listed place (drop place ys) ≡ listed 0 ys → new ++ listed (place + 1) (drop (place + 1) ys) ≡ listed 0 ys
one_more ys vector place d before new l e is h =
    let at = at_place ys place d (subst (λ v. place < length v) e l) in
    let number : slice_index_or vector place d ≡ pos at.0 = ap (λ v. slice_index_or v place d) e ∙ at.2 in
    (λ i. is i ++ listed (place + 1) (drop (next place i) ys))
    ∙ (λ i. (before ++ entry place (number i)) ++ listed (place + 1) (drop (suc place) ys))
    ∙ append_assoc before (entry place (pos at.0)) (listed (place + 1) (drop (suc place) ys))
    ∙ ap (λ es. before ++ es) (sym (ap (listed place) at.1 ∙ first_entry place at.0 (drop (suc place) ys))) ∙ h
  where
    next : (k : ℕ) → k + 1 ≡ suc k
    next k = omega arith
