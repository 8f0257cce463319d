-- Lists of products from one place on.
use Rattle.std.proofs.Common.{◌≡◌, refl, sym, ap, ℕ, zero, suc, ◌+◌, ◌<◌, length, List, [], ◌∷◌, get_or, drop, drop-cons, add-one, map, ℤ, pos, neg_ℤ, ◌-ℤ◌, ◌*ℤ◌, ◌≤ℤ◌, arith, FitsSigned}
use Rattle.std.proofs.lemmas.Int.{ints}
use Rattle.std.specs.Int.{w128}
use Rattle.raml_num.specs.Sums.{NoneNegative}
use Rattle.raml_num.proofs.Differences.{diffs, diff-pos, is_diff, diff_same}
use Rattle.linear_rows.specs.Terms.{SparseRow, Terms, coefficient}
use Rattle.farkas_check.specs.Totals.{products}
use Rattle.farkas_check.specs.Checks.{column}
use Rattle.farkas_check.specs.Sides.{sparse_products}

pub cut : {X : Type 0} (xs : List X) (i : ℕ) (d : X) → i < length xs → drop i xs ≡ get_or xs i d ∷ drop (i + 1) xs
cut xs i d h = rw add-one (drop-cons xs i d h)

pub right_next : (y : List ℤ) (rows : List SparseRow) (i : ℕ) (r : SparseRow) → i < length rows → length y ≡ length rows → r ≡ get_or rows i r
    → products (drop i y) (map (λ row. row.right) (drop i rows)) ≡ (get_or y i (pos 0) *ℤ r.right) ∷ products (drop (i + 1) y) (map (λ row. row.right) (drop (i + 1) rows))
right_next y rows i r h l e =
    rw (cut y i (pos 0) (omega arith), cut rows i r h) (ap (λ (v : SparseRow). (get_or y i (pos 0) *ℤ v.right) ∷ products (drop (i + 1) y) (map (λ row. row.right) (drop (i + 1) rows))) (sym e))

pub column_next : (u : ℕ) (y : List ℤ) (rows : List SparseRow) (i : ℕ) (r : SparseRow) → i < length rows → length y ≡ length rows → r ≡ get_or rows i r
    → products (drop i y) (column u (drop i rows)) ≡ (get_or y i (pos 0) *ℤ coefficient u r.terms) ∷ products (drop (i + 1) y) (column u (drop (i + 1) rows))
column_next u y rows i r h l e =
    rw (cut y i (pos 0) (omega arith), cut rows i r h) (ap (λ (v : SparseRow). (get_or y i (pos 0) *ℤ coefficient u v.terms) ∷ products (drop (i + 1) y) (column u (drop (i + 1) rows))) (sym e))

negated : (a b : ℤ) → neg_ℤ (a *ℤ b) ≡ a *ℤ (pos 0 -ℤ b)
negated a b = rw (is_diff a, is_diff b) (simp (diffs, diff-pos) (diff_same _ _ _ _ (omega arith)))

pub weight_next : (w x : List ℤ) (i : ℕ) → i < length w → length w ≡ length x
    → map neg_ℤ (products (drop i w) (drop i x)) ≡ (get_or w i (pos 0) *ℤ (pos 0 -ℤ get_or x i (pos 0))) ∷ map neg_ℤ (products (drop (i + 1) w) (drop (i + 1) x))
weight_next w x i h l = rw (cut w i (pos 0) h, cut x i (pos 0) (omega arith), negated (get_or w i (pos 0)) (get_or x i (pos 0))) refl

pub term_next : (ts : Terms) (x : List ℤ) (i : ℕ) → i < length ts
    → sparse_products (drop i ts) x ≡ ((get_or ts i (0, pos 0)).1 *ℤ get_or x (get_or ts i (0, pos 0)).0 (pos 0)) ∷ sparse_products (drop (i + 1) ts) x
term_next ts x i h = rw (cut ts i (0, pos 0) h) refl

pub natural_at : (xs : List ℤ) (i : ℕ) → NoneNegative xs → i < length xs → pos 0 ≤ℤ get_or xs i (pos 0)
natural_at [] i h l = absurd (omega arith)
natural_at (x ∷ xs) zero h l = h.0
natural_at (x ∷ xs) (suc i) h l = natural_at xs i h.1 (omega arith)

pub negative_fits : (z : ℤ) → pos 0 ≤ℤ z → FitsSigned w128 z → FitsSigned w128 (pos 0 -ℤ z)
negative_fits z h f = omega (arith, ints)
