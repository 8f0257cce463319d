-- Numbers kept by index.
use Rattle.std.proofs.Common.{◌≡◌, ℕ, ◌+◌, ◌*◌, ◌<◌, ◌≤◌, inl, inr, Bool, true, false, cond, List, [], ◌∷◌, fold, length, suc, get_or, drop, drop-cons, Some, unwrap_or, All, refl, sym, ap, ◌∙◌, arith}
use Rattle.std.specs.Map.{lookup}
use Rattle.std.proofs.lemmas.List.Elements.{All-nil, All-cons}
use Rattle.std.proofs.Math.Nat.{pow-le-pow_right}
use Rattle.indexmap.specs.IndexMap.{insert_entry}
use Rattle.raml_syntax.specs.Tree.{Type'}
use Rattle.raml_syntax.specs.Value.{Value}
use Rattle.base_poly.specs.Plain.{Plain, deg, same}
use Rattle.base_poly.specs.Indices.{IsIndex}
use Rattle.base_poly.specs.Base.{total, base}
use Rattle.base_poly.specs.Product.{product}
use Rattle.base_poly.specs.Count.{counts_of, count_at, count_one, tallied, counted_worth, IsTerm}
use Rattle.base_poly.specs.Read.{index_of, plains_of}
use Rattle.base_poly.specs.Total.{same_is}
use Rattle.base_poly.specs.declared.index.Index.{Index}
use Rattle.base_poly.proofs.Among.{Among}
use Rattle.base_poly.proofs.Multiplied.{product_terms, product_worth, product_few}

abbrev is : Index → Index → Bool
is q k = same (index_of q) (index_of k)

pub looked_up : (es : List (Index × ℕ)) (k : Index) → count_at (index_of k) (counts_of es) ≡ unwrap_or (lookup (is k) es) 0
looked_up [] k = refl
looked_up (e ∷ es) k = by (is k e.0) (looked_up es k)
  where
    by : (b : Bool) → count_at (index_of k) (counts_of es) ≡ unwrap_or (lookup (is k) es) 0 →
        cond b e.1 (count_at (index_of k) (counts_of es)) ≡ unwrap_or (cond b (Some e.1) (lookup (is k) es)) 0
    by true h = refl
    by false h = h

pub inserted : (es : List (Index × ℕ)) (k : Index) (n : ℕ) → n ≡ count_at (index_of k) (counts_of es) → counts_of (insert_entry is es k (n + 1)) ≡ count_one (counts_of es) (index_of k)
inserted [] k n h = ap (λ m. (index_of k, m + 1) ∷ []) h
inserted (e ∷ es) k n h = by (is k e.0) h (inserted es k n)
  where
    by : (b : Bool) → n ≡ cond b e.1 (count_at (index_of k) (counts_of es)) → (n ≡ count_at (index_of k) (counts_of es) → counts_of (insert_entry is es k (n + 1)) ≡ count_one (counts_of es) (index_of k)) →
        counts_of (cond b ((e.0, n + 1) ∷ es) (e ∷ insert_entry is es k (n + 1))) ≡ cond b ((index_of e.0, e.1 + 1) ∷ counts_of es) ((index_of e.0, e.1) ∷ count_one (counts_of es) (index_of k))
    by true h more = ap (λ m. (index_of e.0, m + 1) ∷ counts_of es) h
    by false h more = ap (λ l. (index_of e.0, e.1) ∷ l) (more h)

-- Sums over what is counted

abbrev summed : (Plain → ℕ) → List (Plain × ℕ) → ℕ
summed f es = total (λ e. e.1 * f e.0) es

one_counted : (f : Plain → ℕ) (es : List (Plain × ℕ)) (p : Plain) → summed f (count_one es p) ≡ summed f es + f p
one_counted f [] p = grind arith
one_counted f (e ∷ es) p = by (same p e.0) (λ h. ap f (same_is p e.0 h)) (one_counted f es p)
  where
    by : (b : Bool) → (b ≡ true → f p ≡ f e.0) → summed f (count_one es p) ≡ summed f es + f p → summed f (cond b ((e.0, e.1 + 1) ∷ es) (e ∷ count_one es p)) ≡ summed f (e ∷ es) + f p
    by true h more = let s = h refl in grind (arith, s)
    by false h more = omega (arith, more)

all_counted : (f : Plain → ℕ) (es : List (Plain × ℕ)) (ps : List Plain) → summed f (fold count_one es ps) ≡ summed f es + total f ps
all_counted f es [] = omega arith
all_counted f es (p ∷ ps) = let more = all_counted f (count_one es p) ps in let one = one_counted f es p in omega (arith, more, one)

pub tallied_worth : (v : Value) (ps : List Plain) → counted_worth v (tallied ps) ≡ total (λ k. base k v) ps
tallied_worth v ps = let all = all_counted (λ k. base k v) [] ps in omega (arith, all)

-- No number is more than all of them

abbrev pub numbers : List (Plain × ℕ) → ℕ
numbers es = total (λ e. e.1) es

pub count_within : (p : Plain) (es : List (Plain × ℕ)) → count_at p es ≤ numbers es
count_within p [] = omega arith
count_within p (e ∷ es) = by (same p e.0) (count_within p es)
  where
    by : (b : Bool) → count_at p es ≤ numbers es → cond b e.1 (count_at p es) ≤ numbers (e ∷ es)
    by true h = omega arith
    by false h = omega (arith, h)

pub one_more_number : (es : List (Plain × ℕ)) (p : Plain) → numbers (count_one es p) ≡ numbers es + 1
one_more_number [] p = omega arith
one_more_number (e ∷ es) p = by (same p e.0) (one_more_number es p)
  where
    by : (b : Bool) → numbers (count_one es p) ≡ numbers es + 1 → numbers (cond b ((e.0, e.1 + 1) ∷ es) (e ∷ count_one es p)) ≡ numbers (e ∷ es) + 1
    by true h = omega arith
    by false h = omega (arith, h)

-- Each number counts, and each key is one of the terms

abbrev Each : (Plain → Type 0) → List (Plain × ℕ) → Type 0
Each P [] = Unit {0}
Each P (e ∷ es) = ((0 < e.1) × P e.0) × Each P es

one_each : (P : Plain → Type 0) (es : List (Plain × ℕ)) (p : Plain) → P p → Each P es → Each P (count_one es p)
one_each P [] p h g = ((omega arith, h), tt)
one_each P (e ∷ es) p h g = by (same p e.0) (one_each P es p h g.1)
  where
    by : (b : Bool) → Each P (count_one es p) → Each P (cond b ((e.0, e.1 + 1) ∷ es) (e ∷ count_one es p))
    by true more = ((omega arith, g.0.1), g.1)
    by false more = (g.0, more)

all_each : (P : Plain → Type 0) (es : List (Plain × ℕ)) (ps : List Plain) → ((p : Plain) → Among p ps → P p) → Each P es → Each P (fold count_one es ps)
all_each P es [] h g = g
all_each P es (p ∷ ps) h g = all_each P (count_one es p) ps (λ q m. h q (inr m)) (one_each P es p (h p (inl refl)) g)

as_terms : (i j : Plain) (es : List (Plain × ℕ)) → Each (λ k. ((A : Type') → IsIndex i A → IsIndex j A → IsIndex k A) × (deg k ≤ deg i + deg j)) es → All (IsTerm i j) es
as_terms i j [] h = All-nil (IsTerm i j)
as_terms i j (e ∷ es) h = All-cons (IsTerm i j) e es (record { counts = h.0.0; index = h.0.1.0; degree = h.0.1.1 }) (as_terms i j es h.1)

pub product_counted : (i j : Plain) (A : Type') → IsIndex i A → IsIndex j A → All (IsTerm i j) (tallied (product i j))
product_counted i j A hi hj =
    as_terms i j (tallied (product i j))
    (all_each (λ k. ((B : Type') → IsIndex i B → IsIndex j B → IsIndex k B) × (deg k ≤ deg i + deg j)) [] (product i j)
    (λ k m. ((λ B gi gj. (product_terms i B j k gi gj m).0), (product_terms i A j k hi hj m).1)) tt)

pub product_weighed : (i j : Plain) (A : Type') → IsIndex i A → IsIndex j A → (v : Value) → base i v * base j v ≡ counted_worth v (tallied (product i j))
product_weighed i j A hi hj v = product_worth i A j hi hj v ∙ sym (tallied_worth v (product i j))

pub product_short : (i j : Plain) → deg i ≤ 4 → deg j ≤ 4 → length (product i j) ≤ 6561
product_short i j h k = let few = product_few i j in let less = pow-le-pow_right {n = 3} (omega arith) {i = deg i + deg j} {j = 8} (omega (arith, h, k)) in omega (arith, few, less)

-- One more term is counted
pub counted_step : (es fs whole : List (Plain × ℕ)) (terms : List Index) (k : ℕ) (term : Index) (q : Plain) → k < length terms → term ≡ get_or terms k term → q ≡ index_of term → fs ≡ count_one es q →
    fold count_one es (plains_of (drop k terms)) ≡ whole → fold count_one fs (plains_of (drop (k + 1) terms)) ≡ whole
counted_step es fs whole terms k term q h e same new done =
    let next : suc k ≡ k + 1 = omega arith in
    (λ i. fold count_one ((new ∙ ap (count_one es) same) i) (plains_of (drop (sym next i) terms)))
    ∙ sym (ap (λ l. fold count_one es (plains_of l)) (drop-cons terms k term h ∙ (λ i. sym e i ∷ drop (suc k) terms))) ∙ done
