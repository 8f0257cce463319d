-- Contexts of the code.
use Rattle.std.proofs.Common.{◌≡◌, ◌≤◌, ℕ, zero, suc, ◌+◌, Bool, true, false, cond, nat_eq, List, [], ◌∷◌, ◌++◌, take, drop, zip, length, slice_index_or, ◌<◌, Some, refl, sym, ap, ◌∙◌, append-nil, arith}
use Rattle.raml_syntax.specs.Tree.{Integer}
use Rattle.raml_syntax.specs.declared.ty.Ty.{Ty}
use Rattle.raml_syntax.specs.Read.{ty_of}
use Rattle.base_poly.specs.Read.{context_of}
use Rattle.normal_spec.specs.One.{type_or}
use Rattle.normal_spec.specs.Free.{put, find}
use Rattle.normal_spec.specs.Context.{Context, place, type_in}
use Rattle.normal_spec.specs.Read.{parameters_of}
use Rattle.rules_plan.specs.Context.{type_at}

pub put_is : (x : ℕ) (new C : List (ℕ × Ty)) →
    (parameters_of (take (place x (parameters_of C)) C) ++ parameters_of new) ++ parameters_of (drop (1 + place x (parameters_of C)) C) ≡ put x (parameters_of new) (parameters_of C)
put_is x new [] = append-nil (parameters_of new)
put_is x new (s ∷ C) = by (nat_eq x s.0) refl (put_is x new C)
  where
    by : (b : Bool) → nat_eq x s.0 ≡ b →
        (parameters_of (take (place x (parameters_of C)) C) ++ parameters_of new) ++ parameters_of (drop (1 + place x (parameters_of C)) C) ≡ put x (parameters_of new) (parameters_of C) →
        (parameters_of (take (place x (parameters_of (s ∷ C))) (s ∷ C)) ++ parameters_of new) ++ parameters_of (drop (1 + place x (parameters_of (s ∷ C))) (s ∷ C)) ≡ put x (parameters_of new) (parameters_of (s ∷ C))
    by true e more =
        let p = place x (parameters_of C) in
        (λ i. (parameters_of (take (cond (e i) 0 (suc p)) (s ∷ C)) ++ parameters_of new) ++ parameters_of (drop (1 + cond (e i) 0 (suc p)) (s ∷ C)))
        ∙ (λ i. cond (sym e i) (parameters_of new ++ parameters_of C) ((s.0, ty_of s.1) ∷ put x (parameters_of new) (parameters_of C)))
    by false e more =
        let p = place x (parameters_of C) in
        let next : 1 + suc p ≡ suc (1 + p) = omega arith in
        (λ i. (parameters_of (take (cond (e i) 0 (suc p)) (s ∷ C)) ++ parameters_of new) ++ parameters_of (drop (1 + cond (e i) 0 (suc p)) (s ∷ C)))
        ∙ (λ i. (parameters_of (take (suc p) (s ∷ C)) ++ parameters_of new) ++ parameters_of (drop (next i) (s ∷ C)))
        ∙ ap (λ l. (s.0, ty_of s.1) ∷ l) more
        ∙ (λ i. cond (sym e i) (parameters_of new ++ parameters_of C) ((s.0, ty_of s.1) ∷ put x (parameters_of new) (parameters_of C)))

-- no item
abbrev none : (X : Type 0) → List X
none X = []

zip_none : {X Y : Type 0} (xs : List X) → zip xs (none Y) ≡ []
zip_none [] = refl
zip_none (x ∷ xs) = refl

pub none_behind : {X : Type 0} (xs : List X) (k : ℕ) → length xs ≤ k → drop k xs ≡ []
none_behind [] zero h = refl
none_behind [] (suc k) h = refl
none_behind (x ∷ xs) zero h = absurd (omega (arith, h))
none_behind (x ∷ xs) (suc k) h = none_behind xs k (omega (arith, h))

pub named_ends : (names : List ℕ) (types : List Ty) (at : ℕ) (found whole : Context) → length types ≤ at → found ++ zip (drop at names) (context_of (drop at types)) ≡ whole → found ≡ whole
named_ends names types at found whole h e =
    sym (append-nil found) ∙ ap (λ l. found ++ l) (sym (zip_none (drop at names))) ∙ ap (λ l. found ++ zip (drop at names) (context_of l)) (sym (none_behind types at h)) ∙ e

pub type_there : (C : List (ℕ × Ty)) (k : ℕ) (d : ℕ × Ty) → k < length C → ty_of (slice_index_or C k d).1 ≡ type_at k (parameters_of C)
type_there [] k d h = absurd (omega (arith, h))
type_there (s ∷ C) zero d h = refl
type_there (s ∷ C) (suc k) d h = type_there C k d (omega (arith, h))

pub no_type : (C : List (ℕ × Ty)) (k : ℕ) → length C ≤ k → type_at k (parameters_of C) ≡ Integer
no_type [] k h = refl
no_type (s ∷ C) zero h = absurd (omega (arith, h))
no_type (s ∷ C) (suc k) h = no_type C k (omega (arith, h))

pub type_is : (x : ℕ) (C : Context) → type_at (place x C) C ≡ type_in x C
type_is x [] = refl
type_is x (s ∷ C) = by (nat_eq x s.0) refl (type_is x C)
  where
    by : (b : Bool) → nat_eq x s.0 ≡ b → type_at (place x C) C ≡ type_in x C → type_at (place x (s ∷ C)) (s ∷ C) ≡ type_in x (s ∷ C)
    by true e more = (λ i. type_at (cond (e i) 0 (suc (place x C))) (s ∷ C)) ∙ sym (λ i. type_or (cond (e i) (Some s.1) (find x C)))
    by false e more = (λ i. type_at (cond (e i) 0 (suc (place x C))) (s ∷ C)) ∙ more ∙ sym (λ i. type_or (cond (e i) (Some s.1) (find x C)))
