-- Tables of signatures, step by step.
use Rattle.std.proofs.Common.{◌≡◌, refl, ap, sym, ◌∙◌, arith, drop-cons}
use Rattle.std.specs.Prelude.{ℕ, zero, suc, ◌-◌, ◌<◌, ℤ, unsigned_abs, Bool, true, false, not, List, [], ◌∷◌, ◌++◌, map, length, take, drop, slice_set, slice_index_or, Option, None, Some, replicate}
use Rattle.std.specs.Option.{is_some}
use Rattle.std.proofs.lemmas.List.{append-nil, map-set, get_or-map, length-append}
use Rattle.std.proofs.Math.Seq.{take-append_seam, map-set_same, drop-length}
use Rattle.std.specs.Result.{OnErr}
use Rattle.std.specs.Prelude.{Result, Ok, Err}
use Rattle.index_shift.specs.Potential.{Annotation}
use Rattle.annot_types.specs.Certificate.{Entries, annotation, Sig}
use Rattle.rules_spec.specs.Numbers.{Signature}
use Rattle.rules_spec.specs.Found.{listed}
use Rattle.rules_walk.specs.Signed.{front, signatures, standing, filled}

listed_same : (n : ℕ) (q r : Annotation) → ((k : ℕ) → q k ≡ r k) → listed n q ≡ listed n r
listed_same zero q r h = refl
listed_same (suc n) q r h = λ i. h 0 i ∷ listed_same n (λ k. q (suc k)) (λ k. r (suc k)) (λ k. h (suc k)) i

set_listed : (n : ℕ) (q r : Annotation) (p x : ℕ) → r p ≡ x → ((k : ℕ) → (p ≡ k → ⊥) → q k ≡ r k) → slice_set (listed n q) p x ≡ listed n r
set_listed zero q r p x here others = refl
set_listed (suc n) q r zero x here others =
    λ i. sym here i ∷ listed_same n (λ k. q (suc k)) (λ k. r (suc k)) (λ k. others (suc k) (λ e. absurd (omega (arith, e)))) i
set_listed (suc n) q r (suc p) x here others =
    λ i. others 0 (λ e. absurd (omega (arith, e))) i ∷ set_listed n (λ k. q (suc k)) (λ k. r (suc k)) p x here (λ k d. others (suc k) (λ e. d (omega (arith, e)))) i

annotation_here : (e : ℕ × ℤ) (es : Entries) → annotation (e ∷ es) e.0 ≡ unsigned_abs e.1
annotation_here e es = grind arith

annotation_other : (e : ℕ × ℤ) (es : Entries) (k : ℕ) → (e.0 ≡ k → ⊥) → annotation es k ≡ annotation (e ∷ es) k
annotation_other e es k d = grind (arith, d)

-- one entry more in front
pub entry_listed : (n : ℕ) (e : ℕ × ℤ) (es : Entries) → slice_set (listed n (annotation es)) e.0 (unsigned_abs e.1) ≡ listed n (annotation (e ∷ es))
entry_listed n e es = set_listed n (annotation es) (annotation (e ∷ es)) e.0 (unsigned_abs e.1) (annotation_here e es) (annotation_other e es)

-- a change at one place of a list, seen through a map
pub changed_at : {A B : Type 0} (f : A → B) (g : B → B) (xs : List A) (k : ℕ) (old new : A) (d : B) → k < length xs → old ≡ slice_index_or xs k old →
    f new ≡ g (f old) → map f (slice_set xs k new) ≡ slice_set (map f xs) k (g (slice_index_or (map f xs) k d))
changed_at f g xs k old new d h here e =
    map-set f xs k new ∙ ap (slice_set (map f xs) k) (e ∙ ap g (ap f here ∙ sym (get_or-map f xs k old d h)))

pub kept_at : {A B : Type 0} (f : A → B) (xs : List A) (k : ℕ) (old new : A) → old ≡ slice_index_or xs k old → f new ≡ f old → map f (slice_set xs k new) ≡ map f xs
kept_at f xs k old new here e = map-set_same f xs k new old (e ∙ ap f here)

pub same_default : {A : Type 0} (xs : List A) (k : ℕ) (d e : A) → k < length xs → slice_index_or xs k d ≡ slice_index_or xs k e
same_default [] k d e h = absurd (omega (arith, h))
same_default (x ∷ xs) zero d e h = refl
same_default (x ∷ xs) (suc k) d e h = same_default xs k d e (omega (arith, h))

front_more : {A : Type 0} (u : List A) (x : A) → front (u ++ x ∷ []) ≡ u
front_more u x = let e : length (u ++ x ∷ []) - 1 ≡ length u = omega (arith, length-append u (x ∷ [])) in
    ap (λ n. take n (u ++ x ∷ [])) e ∙ take-append_seam u (x ∷ [])

-- what was added at a place is taken back
pub added_back : {A : Type 0} (t : List (List A)) (k : ℕ) (x : A) →
    slice_set (slice_set t k (slice_index_or t k [] ++ x ∷ [])) k (front (slice_index_or (slice_set t k (slice_index_or t k [] ++ x ∷ [])) k [])) ≡ t
added_back [] k x = refl
added_back (u ∷ t) zero x = λ i. front_more u x i ∷ t
added_back (u ∷ t) (suc k) x = ap (λ l. u ∷ l) (added_back t k x)

pub on_error : {A E X : Type 0} (r : Result A E) → X → OnErr r X
on_error (Ok a) h = tt
on_error (Err e) h = h

pub none_of : {A : Type 0} (o : Option A) (b : Bool) → is_some o ≡ not b → b ≡ true → o ≡ None
none_of None b h e = refl
none_of (Some x) true h e = absurd (cc)
none_of (Some x) false h e = absurd (cc)

-- what is made so far is all, where one of the lists has come to its end
pub sizes_ended : (b : ℕ) (made all : List (ℕ × Signature)) (fs : List ℕ) (zs : List (ℕ × ℕ)) (ss : List Sig) → length zs < 1 →
    made ++ signatures b fs zs ss ≡ all → made ≡ all
sizes_ended b made all [] [] ss h e = sym (append-nil made) ∙ e
sizes_ended b made all (f ∷ fs) [] ss h e = sym (append-nil made) ∙ e
sizes_ended b made all fs (z ∷ zs) ss h e = absurd (omega (arith, h))

pub sigs_ended : (b : ℕ) (made all : List (ℕ × Signature)) (fs : List ℕ) (zs : List (ℕ × ℕ)) (ss : List Sig) → length ss < 1 →
    made ++ signatures b fs zs ss ≡ all → made ≡ all
sigs_ended b made all [] zs [] h e = sym (append-nil made) ∙ e
sigs_ended b made all (f ∷ fs) [] [] h e = sym (append-nil made) ∙ e
sigs_ended b made all (f ∷ fs) (z ∷ zs) [] h e = sym (append-nil made) ∙ e
sigs_ended b made all fs zs (s ∷ ss) h e = absurd (omega (arith, h))

nothing_listed : (n : ℕ) → replicate n 0 ≡ listed n (annotation [])
nothing_listed zero = refl
nothing_listed (suc n) = ap (λ l. 0 ∷ l) (nothing_listed n)

-- what is left of the entries at the start, and one more of them
pub entries_left : (n : ℕ) (es : Entries) → replicate n 0 ≡ listed n (annotation (drop (length es) es))
entries_left n es = nothing_listed n ∙ ap (λ l. listed n (annotation l)) (sym (drop-length es))

pub entry_left : (n k : ℕ) (es : Entries) (d : ℕ × ℤ) → k < length es →
    slice_set (listed n (annotation (drop (suc k) es))) (slice_index_or es k d).0 (unsigned_abs (slice_index_or es k d).1) ≡ listed n (annotation (drop k es))
entry_left n k es d h = entry_listed n (slice_index_or es k d) (drop (suc k) es) ∙ ap (λ l. listed n (annotation l)) (sym (drop-cons es k d h))

pub filled_more : (xs : List (ℕ × Signature)) (s : ℕ × Signature) (t : List (Option Signature)) →
    filled (xs ++ s ∷ []) t ≡ slice_set (filled xs t) s.0 (Some (standing (slice_index_or (filled xs t) s.0 None) s.1))
filled_more [] s t = refl
filled_more (x ∷ xs) s t = filled_more xs s (slice_set t x.0 (Some (standing (slice_index_or t x.0 None) x.1)))
