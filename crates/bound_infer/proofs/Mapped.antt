-- Lists made item by item.
use Rattle.std.proofs.Common.{◌≡◌, ◌<◌, ◌+◌, ℕ, zero, suc, ℤ, pos, ◌*ℤ◌, FitsSigned, true, false, List, [], ◌∷◌, ◌++◌, map, take, length, slice_index_or, All, Result, Err, refl, sym, ap, ◌∙◌, subst, arith}
use Rattle.std.specs.Int.{w128}
use Rattle.std.proofs.lemmas.List.Elements.{All-more, All-nil, All-cons, All-head, All-tail}
use Rattle.annot_types.specs.Certificate.{Entries}
use Rattle.annot_types.specs.Holds.{times}
use Rattle.infer_spec.specs.Places.{EntriesFit}
use Rattle.bound_infer.specs.declared.fault.TimesFault.{TimesFault}

module _ {X Z : Type 0} (f : X → Z) where
  map_next : (xs : List X) (k : ℕ) (d : X) → k < length xs → map f (take (suc k) xs) ≡ map f (take k xs) ++ f (slice_index_or xs k d) ∷ []
  map_next [] k d l = absurd (omega (arith, l))
  map_next (x ∷ xs) zero d l = refl
  map_next (x ∷ xs) (suc k) d l = ap (λ ys. f x ∷ ys) (map_next xs k d (omega (arith, l)))

  -- one more item, as it is read
  pub one_more : {Y : Type 0} (read : Y → Z) (xs : List X) (k : ℕ) (d : X) (ys new : List Y) (y : Y) → k < length xs → map read ys ≡ map f (take k xs) →
      new ≡ ys ++ y ∷ [] → read y ≡ f (slice_index_or xs k d) → map read new ≡ map f (take (k + 1) xs)
  one_more {Y = Y} read xs k d ys new y l h e is =
      ap (map read) e ∙ mapped ys y ∙ (λ i. h i ++ is i ∷ []) ∙ sym (map_next xs k d l) ∙ (λ i. map f (take (next k i) xs))
    where
      mapped : (ys : List Y) (y : Y) → map read (ys ++ y ∷ []) ≡ map read ys ++ read y ∷ []
      mapped [] y = refl
      mapped (z ∷ ys) y = ap (λ zs. read z ∷ zs) (mapped ys y)

      next : (k : ℕ) → suc k ≡ k + 1
      next k = omega arith

  -- one more item
  pub item_more : (xs : List X) (k : ℕ) (d : X) (ys new : List Z) (y : Z) → k < length xs → ys ≡ map f (take k xs) →
      new ≡ ys ++ y ∷ [] → y ≡ f (slice_index_or xs k d) → new ≡ map f (take (k + 1) xs)
  item_more xs k d ys new y l h e is = e ∙ (λ i. h i ++ is i ∷ []) ∙ sym (map_next xs k d l) ∙ (λ i. map f (take (next k i) xs))
    where
      next : (k : ℕ) → suc k ≡ k + 1
      next k = omega arith

-- one more item, which has a property
pub list_more : {X Y Z : Type 0} (f : X → Z) (read : Y → Z) (Q : X → Type 0) (xs : List X) (k : ℕ) (x : X) (ys new : List Y) (y : Y) → k < length xs → x ≡ slice_index_or xs k x →
    map read ys ≡ map f (take k xs) → All Q (take k xs) → read y ≡ f x → Q x → new ≡ ys ++ y ∷ [] → (map read new ≡ map f (take (k + 1) xs)) × All Q (take (k + 1) xs)
list_more f read Q xs k x ys new y l at h all is has e =
    (one_more f read xs k x ys new y l h e (is ∙ ap f at), All-more Q xs k x l all (subst Q at has))

pub plain_more : {X Z : Type 0} (f : X → Z) (Q : X → Type 0) (xs : List X) (k : ℕ) (x : X) (ys new : List Z) (y : Z) → k < length xs → x ≡ slice_index_or xs k x →
    ys ≡ map f (take k xs) → All Q (take k xs) → y ≡ f x → Q x → new ≡ ys ++ y ∷ [] → (new ≡ map f (take (k + 1) xs)) × All Q (take (k + 1) xs)
plain_more f Q xs k x ys new y l at h all is has e = (item_more f xs k x ys new y l h e (is ∙ ap f at), All-more Q xs k x l all (subst Q at has))

-- all items are among the first ones
pub all_of : {X : Type 0} (Q : X → Type 0) (xs : List X) (k : ℕ) → All Q (take k xs) → (k < length xs → ⊥) → All Q xs
all_of Q [] k h l = All-nil Q
all_of Q (x ∷ xs) zero h l = absurd (l (omega arith))
all_of Q (x ∷ xs) (suc k) h l = All-cons Q x xs (All-head Q x (take k xs) h) (all_of Q xs k (All-tail Q x (take k xs) h) (λ q. l (omega (arith, q))))

pub same_fault : {X : Type 0} (a b : TimesFault) → ◌≡◌ {A = Result X TimesFault} (Err a) (Err b) → a ≡ b
same_fault a b e = cc

-- one more entry
pub entry_more : (t : ℕ) (es : Entries) (k : ℕ) (made new : Entries) (z : ℤ) → k < length es → made ≡ times t (take k es) → EntriesFit t (take k es) →
    FitsSigned w128 (pos t *ℤ (slice_index_or es k (0, pos 0)).1) → z ≡ pos t *ℤ (slice_index_or es k (0, pos 0)).1 →
    new ≡ made ++ ((slice_index_or es k (0, pos 0)).0, z) ∷ [] → (new ≡ times t (take (k + 1) es)) × EntriesFit t (take (k + 1) es)
entry_more t es k made new z l h all fits is e = (
  item_more (λ (x : ℕ × ℤ). (x.0, pos t *ℤ x.1)) es k (0, pos 0) made new ((slice_index_or es k (0, pos 0)).0, z) l h e (λ i. ((slice_index_or es k (0, pos 0)).0, is i)),
  All-more (λ (x : ℕ × ℤ). FitsSigned w128 (pos t *ℤ x.1)) es k (0, pos 0) l all fits,
)

pub never : false ≡ true → ⊥
never q = cc
