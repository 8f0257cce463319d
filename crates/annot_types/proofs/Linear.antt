-- Annotations whose numbers are all multiplied: whatever moves them is linear.
use Rattle.std.proofs.Common.{◌≡◌, ◌==◌, if◌then◌else◌, ℕ, zero, suc, ◌+◌, ◌-◌, ◌*◌, pos, ◌*ℤ◌, unsigned_abs, Bool, true, false}
use Rattle.std.proofs.Common.{List, [], ◌∷◌, ◌++◌, map, refl, arith, ap, sym, ◌∙◌}
use Rattle.std.proofs.Math.Nat.{mul-sub, mul-le-mul_left}
use Rattle.std.proofs.lemmas.Int.{ints, unsigned_abs-mul}
use Rattle.raml_syntax.specs.Tree.{Type'}
use Rattle.base_poly.specs.Plain.{Plain, degrees}
use Rattle.base_poly.specs.Base.{total}
use Rattle.index_shift.specs.Potential.{Annotation, moved}
use Rattle.index_shift.specs.Parts.{type_parts}
use Rattle.base_poly.specs.Indices.{index_list}
use Rattle.index_shift.specs.Maps.{opening, entries_from}
use Rattle.index_shift.specs.declared.entry.Entry.{Entry}
use Rattle.index_shift.specs.Contexts.{permutes}
use Rattle.normal_spec.specs.Context.{Context, types}
use Rattle.annot_types.specs.Certificate.{Entries, number_at, annotation, Annotates}
use Rattle.annot_types.specs.Carried.{Covers, less, more, to, operand_places, at_operands, at_parts, joined, rebudgeted}
use Rattle.annot_types.specs.Holds.{times}

-- all numbers times u
abbrev pub mul : ℕ → Annotation → Annotation
mul u q k = u * q k

pub distrib : (u a b : ℕ) → u * a + u * b ≡ u * (a + b)
distrib u a b = grind arith

pub total_mul : {X : Type 0} (u : ℕ) (f g : X → ℕ) (xs : List X) → ((x : X) → g x ≡ u * f x) → total g xs ≡ u * total f xs
total_mul u f g [] h = grind arith
total_mul u f g (x ∷ xs) h = (λ i. h x i + total_mul u f g xs h i) ∙ distrib u (f x) (total f xs)

pub total_append : {X : Type 0} (f : X → ℕ) (xs ys : List X) → total f (xs ++ ys) ≡ total f xs + total f ys
total_append f [] ys = omega arith
total_append f (x ∷ xs) ys = ap (λ n. f x + n) (total_append f xs ys) ∙ omega arith

pick : (u : ℕ) (b : Bool) (a c : ℕ) → c ≡ u * a → (if b then c else 0) ≡ u * (if b then a else 0)
pick u true a c h = h
pick u false a c h = grind arith

pub swap : (u n q : ℕ) → n * (u * q) ≡ u * (n * q)
swap u n q = grind arith

pub moved_mul : (u : ℕ) (es : List Entry) (q : Annotation) → moved es (mul u q) ≡ mul u (moved es q)
moved_mul u es q = λ i k. at k i
  where
    at : (k : ℕ) → moved es (mul u q) k ≡ u * moved es q k
    at k = total_mul u (λ (e : Entry). if e.to == k then e.times * q e.from else 0) (λ (e : Entry). if e.to == k then e.times * (u * q e.from) else 0) es
        (λ e. pick u (e.to == k) (e.times * q e.from) (e.times * (u * q e.from)) (swap u e.times (q e.from)))

pub less_mul : (u n : ℕ) (q : Annotation) → less (u * n) (mul u q) ≡ mul u (less n q)
less_mul u n q = λ i k. at k i
  where
    at : (k : ℕ) → less (u * n) (mul u q) k ≡ u * less n q k
    at zero = sym (mul-sub u (q 0) n)
    at (suc k) = refl

pub more_mul : (u n : ℕ) (q : Annotation) → more (u * n) (mul u q) ≡ mul u (more n q)
more_mul u n q = λ i k. at k i
  where
    at : (k : ℕ) → more (u * n) (mul u q) k ≡ u * more n q k
    at zero = distrib u n (q 0)
    at (suc k) = refl

pub covers_mul : (u : ℕ) (As : List Type') (d : ℕ) (q r : Annotation) → Covers As d q r → Covers As d (mul u q) (mul u r)
covers_mul u As d q r h = λ k l. mul-le-mul_left u (h k l)

pub at_operands_mul : (u : ℕ) (C : Context) (xs : List ℕ) (As : List Type') (b d : ℕ) (q : Annotation) →
    at_operands C xs As b d (mul u q) ≡ mul u (at_operands C xs As b d q)
at_operands_mul u C xs As b d q = moved_mul u (entries_from 0 (permutes (operand_places C xs)) (index_list As b) (index_list (types C) d)) q

pub at_parts_mul : (u : ℕ) (C : Context) (xs : List ℕ) (T : Type') (d : ℕ) (r : Annotation) → at_parts C xs T d (mul u r) ≡ mul u (at_parts C xs T d r)
at_parts_mul u C xs T d r =
    ap (at_operands C xs (type_parts T) d d) (moved_mul u (opening (T ∷ []) 0 d) r) ∙ at_operands_mul u C xs (type_parts T) d d (moved (opening (T ∷ []) 0 d) r)

-- entries times u
number_mul : (u k : ℕ) (es : Entries) → number_at k (times u es) ≡ pos u *ℤ number_at k es
number_mul u k [] = grind (arith, ints)
number_mul u k (e ∷ es) = at (e.0 == k) (number_mul u k es)
  where
    at : (b : Bool) → number_at k (times u es) ≡ pos u *ℤ number_at k es →
        (if b then pos u *ℤ e.1 else number_at k (times u es)) ≡ pos u *ℤ (if b then e.1 else number_at k es)
    at true rest = refl
    at false rest = rest

pub annotation_mul : (u : ℕ) (es : Entries) → annotation (times u es) ≡ mul u (annotation es)
annotation_mul u es = λ i k. (ap unsigned_abs (number_mul u k es) ∙ unsigned_abs-mul (pos u) (number_at k es)) i

pub annotates_mul : (u : ℕ) (As : List Type') (d : ℕ) (es : Entries) → Annotates As d es → Annotates As d (times u es)
annotates_mul u As d [] h = tt
annotates_mul u As d (e ∷ es) h = (h.0, annotates_mul u As d es h.1)

pub joined_mul : (u : ℕ) (Bs : List Type') (A : Type') (d : ℕ) (js : List (List Plain)) (rs : List Entries) →
    joined Bs A d js (map annotation (map (times u) rs)) ≡ mul u (joined Bs A d js (map annotation rs))
joined_mul u Bs A d js rs = λ i k. at js rs k i
  where
    nothing : (n : ℕ) → 0 ≡ n * 0
    nothing n = grind arith

    at : (js : List (List Plain)) (rs : List Entries) (k : ℕ) → joined Bs A d js (map annotation (map (times u) rs)) k ≡ u * joined Bs A d js (map annotation rs) k
    at [] rs k = nothing u
    at (j ∷ js) [] k = nothing u
    at (j ∷ js) (r ∷ rs) k =
        let es = entries_from 0 (to (λ t. j ++ t)) (index_list (A ∷ []) (d - degrees j)) (index_list (Bs ++ A ∷ []) d) in
        (λ i. moved es (annotation_mul u r i) k + at js rs k i)
        ∙ (λ i. moved_mul u es (annotation r) i k + u * joined Bs A d js (map annotation rs) k)
        ∙ distrib u (moved es (annotation r) k) (joined Bs A d js (map annotation rs) k)

pub rebudgeted_mul : (u : ℕ) (As : List Type') (b d : ℕ) (q : Annotation) → rebudgeted As b d (mul u q) ≡ mul u (rebudgeted As b d q)
rebudgeted_mul u As b d q = moved_mul u (entries_from 0 (to (λ t. t)) (index_list As b) (index_list As d)) q
