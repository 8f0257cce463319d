-- Lexicographically positive lists, and that the rows stay so.
use Rattle.std.proofs.Common.{◌≡◌, refl, sym, ap, subst, ◌∙◌, ℕ, zero, suc, ◌<◌, ℤ, pos, ◌-ℤ◌, ◌*ℤ◌, ◌≤ℤ◌, ◌<ℤ◌, arith, List, [], ◌∷◌, length, ◌⊎◌, inl, inr}
use Rattle.std.proofs.lemmas.Int.{ints, by_lt_z}
use lib.IntN.{*ℤ_comm, negsuc}
use Rattle.raml_num.proofs.Differences.{diffs, is_diff, diff_same, diff-pos}
use Rattle.raml_num.proofs.Signed.{le_mul}
use Rattle.linear_rows.specs.Vectors.{dot, scale, plus}
use Rattle.simplex_spec.specs.Places.{at, row_at, at_each, column, swept}
use Rattle.simplex_spec.specs.Tableaux.{Tableau, pivot, LexAtMost, IsLeastRow}
use Rattle.simplex_spec.proofs.Rows.{at_each-swept, at_each-scale, length-at_each, wide_at}
use Rattle.simplex_spec.proofs.Pivoting.{above, same_or_not, length_after, lead_after, row_after}
use Rattle.simplex_spec.proofs.Bases.{gone}
use Rattle.simplex_spec.proofs.Invariant.{Sound, Based, basis_at, LexPositive, RowsPositive}

abbrev pub AllZero : List ℤ → Type 0
AllZero [] = Unit {0}
AllZero (x ∷ xs) = (x ≡ pos 0) × AllZero xs

pub cancel : (d x : ℤ) → pos 0 <ℤ d → d *ℤ x ≡ pos 0 → x ≡ pos 0
cancel (pos zero) x h e = absurd (omega (arith, ints))
cancel (negsuc m) x h e = absurd (omega (arith, ints))
cancel (pos (suc m)) (pos zero) h e = refl
cancel (pos (suc m)) (pos (suc n)) h e = absurd (omega (arith, ints))
cancel (pos (suc m)) (negsuc n) h e = absurd (omega (arith, ints))

pub lex_scale : (k : ℤ) (xs : List ℤ) → pos 0 <ℤ k → LexPositive xs → LexPositive (scale k xs)
lex_scale k [] h p = p
lex_scale k (x ∷ xs) h (inl p) = inl (above k x h p)
lex_scale k (x ∷ xs) h (inr (e, p)) = inr (rw e (omega (arith, ints)), lex_scale k xs h p)

pub lex_unscale : (k : ℤ) (xs : List ℤ) → pos 0 <ℤ k → LexPositive (scale k xs) → LexPositive xs
lex_unscale k [] h p = p
lex_unscale k (x ∷ xs) h (inl p) = inl (by_lt_z (pos 0) x (λ q. q) (λ q. let m : (k *ℤ x) ≤ℤ (k *ℤ pos 0) = le_mul x (pos 0) k q (omega (arith, ints)) in absurd (omega (arith, ints))))
lex_unscale k (x ∷ xs) h (inr p) = inr (cancel k x h p.0, lex_unscale k xs h p.1)

pub lex_plus : (xs ys : List ℤ) → length xs ≡ length ys → LexPositive xs → LexPositive ys → LexPositive (plus xs ys)
lex_plus [] [] e p q = p
lex_plus [] (y ∷ ys) e p q = absurd (omega arith)
lex_plus (x ∷ xs) [] e p q = q
lex_plus (x ∷ xs) (y ∷ ys) e (inl p) (inl q) = inl (omega (arith, ints))
lex_plus (x ∷ xs) (y ∷ ys) e (inl p) (inr (f, q)) = inl (omega (arith, ints))
lex_plus (x ∷ xs) (y ∷ ys) e (inr (f, p)) (inl q) = inl (omega (arith, ints))
lex_plus (x ∷ xs) (y ∷ ys) e (inr (f, p)) (inr (g, q)) = inr (omega (arith, ints), lex_plus xs ys (omega arith) p q)

pub not_zero : (xs : List ℤ) → LexPositive xs → AllZero xs → ⊥
not_zero [] p z = p
not_zero (x ∷ xs) (inl p) z = let e = z.0 in omega (arith, ints)
not_zero (x ∷ xs) (inr p) z = not_zero xs p.1 z.1

pub dot-zero : (xs ys : List ℤ) → AllZero xs → dot xs ys ≡ pos 0
dot-zero [] ys z = refl
dot-zero (x ∷ xs) [] z = refl
dot-zero (x ∷ xs) (y ∷ ys) z = rw (z.0, dot-zero xs ys z.1) (omega (arith, ints))

-- a row swept by a lead with the factor f, where f is not positive
rises : (x p f y : ℤ) → pos 0 <ℤ p → f ≤ℤ pos 0 → pos 0 <ℤ x → pos 0 ≤ℤ y → pos 0 <ℤ (x *ℤ p -ℤ f *ℤ y)
rises x p f y hp hf hx hy =
    let a : pos 0 <ℤ (x *ℤ p) = above x p hx hp in
    let b : (y *ℤ f) ≤ℤ (y *ℤ pos 0) = le_mul f (pos 0) y hf hy in
    let c : f *ℤ y ≡ y *ℤ f = *ℤ_comm f y in
    omega (arith, ints)

minus_mul : (f y : ℤ) → (pos 0 -ℤ f) *ℤ y ≡ pos 0 -ℤ f *ℤ y
minus_mul f y = rw (is_diff f, is_diff y) (simp (diffs, diff-pos) (diff_same _ _ _ _ (omega arith)))

zero_then : (x p f y : ℤ) → x ≡ pos 0 → pos 0 <ℤ y → f ≤ℤ pos 0 → (pos 0 <ℤ (x *ℤ p -ℤ f *ℤ y)) ⊎ (f ≡ pos 0)
zero_then x p f y e hy hf = by_lt_z f (pos 0)
    (λ h. inl (let a : pos 0 <ℤ ((pos 0 -ℤ f) *ℤ y) = above (pos 0 -ℤ f) y (omega (arith, ints)) hy in let q : (pos 0 -ℤ f) *ℤ y ≡ pos 0 -ℤ f *ℤ y = minus_mul f y in rw e (omega (arith, ints))))
    (λ h. inr (omega (arith, ints)))

lex_flat : (p f : ℤ) (xs ys : List ℤ) → length xs ≡ length ys → pos 0 <ℤ p → f ≡ pos 0 → LexPositive xs → LexPositive (swept p f xs ys)
lex_flat p f [] ys e hp h a = a
lex_flat p f (x ∷ xs) [] e hp h a = absurd (omega arith)
lex_flat p f (x ∷ xs) (y ∷ ys) e hp h (inl a) = inl (let q = above x p a hp in rw h (omega (arith, ints)))
lex_flat p f (x ∷ xs) (y ∷ ys) e hp h (inr a) = inr (rw (a.0, h) (omega (arith, ints)), lex_flat p f xs ys (omega arith) hp h a.1)

lex_below : (p f : ℤ) (xs ys : List ℤ) → length xs ≡ length ys → pos 0 <ℤ p → f ≤ℤ pos 0 → LexPositive xs → LexPositive ys → LexPositive (swept p f xs ys)
lex_below p f [] ys e hp hf a b = a
lex_below p f (x ∷ xs) [] e hp hf a b = absurd (omega arith)
lex_below p f (x ∷ xs) (y ∷ ys) e hp hf (inl a) (inl b) = inl (rises x p f y hp hf a (omega (arith, ints)))
lex_below p f (x ∷ xs) (y ∷ ys) e hp hf (inl a) (inr b) = let c = b.0 in inl (rises x p f y hp hf a (omega (arith, ints)))
lex_below p f (x ∷ xs) (y ∷ ys) e hp hf (inr a) (inl b) = elim (zero_then x p f y a.0 b hf) [
  | inl h ↦ inl h
  | inr h ↦ inr (rw (a.0, h) (omega (arith, ints)), lex_flat p f xs ys (omega arith) hp h a.1)
]
lex_below p f (x ∷ xs) (y ∷ ys) e hp hf (inr a) (inr b) = inr (gone x p f y a.0 b.0, lex_below p f xs ys (omega arith) hp hf a.1 b.1)

-- where the lead over its number is at most the row over its own, the swept row is positive or 0
less_then : (x p f y : ℤ) → (f *ℤ y) <ℤ (p *ℤ x) → pos 0 <ℤ (x *ℤ p -ℤ f *ℤ y)
less_then x p f y h = let c : x *ℤ p ≡ p *ℤ x = *ℤ_comm x p in omega (arith, ints)

same_then : (x p f y : ℤ) → f *ℤ y ≡ p *ℤ x → x *ℤ p -ℤ f *ℤ y ≡ pos 0
same_then x p f y h = let c : x *ℤ p ≡ p *ℤ x = *ℤ_comm x p in omega (arith, ints)

pub lex_least : (p f : ℤ) (xs ys : List ℤ) → length xs ≡ length ys → LexAtMost (scale f ys) (scale p xs) → LexPositive (swept p f xs ys) ⊎ AllZero (swept p f xs ys)
lex_least p f [] [] e a = inr tt
lex_least p f [] (y ∷ ys) e a = absurd (omega arith)
lex_least p f (x ∷ xs) [] e a = absurd (omega arith)
lex_least p f (x ∷ xs) (y ∷ ys) e (inl a) = inl (inl (less_then x p f y a))
lex_least p f (x ∷ xs) (y ∷ ys) e (inr a) = elim (lex_least p f xs ys (omega arith) a.1) [
  | inl h ↦ inl (inr (same_then x p f y a.0, h))
  | inr h ↦ inr (same_then x p f y a.0, h)
]

-- a row that is 0 at the slacks is 0 everywhere, so it is no row of a tableau
pub none_zero : (n : ℕ) (opened : List (List ℤ)) (values : List ℤ) (slacks : List ℕ) (t : Tableau) (i : ℕ) → Sound n opened values slacks t → Based t → i < length t.rows → AllZero (at_each (row_at t.rows i) slacks) → ⊥
none_zero n opened values slacks t i k b h z =
    let e = (k.made i h).made (basis_at t.basis i) in
    let f = dot-zero (at_each (row_at t.rows i) slacks) (column (basis_at t.basis i) opened) z in
    let g = b.own i h in
    let d = k.positive in
    omega (arith, ints)

pub zero_tail : (x : ℤ) (xs : List ℤ) → AllZero (x ∷ xs) → AllZero xs
zero_tail x xs z = z.1

-- a pivot in the least row keeps the rows positive
pub rows_stay : (n : ℕ) (opened : List (List ℤ)) (values : List ℤ) (slacks : List ℕ) (e : ℕ) (t : Tableau) (l c : ℕ)
    → Sound n opened values slacks t → RowsPositive (e ∷ slacks) t → IsLeastRow (e ∷ slacks) c t l → Sound n opened values slacks (pivot l c t) → Based (pivot l c t) → RowsPositive (e ∷ slacks) (pivot l c t)
rows_stay n opened values slacks e t l c k r least after b =
    let cs : List ℕ = e ∷ slacks in
    let lead : List ℤ = row_at t.rows l in
    let p : ℤ = at lead c in
    let long : length lead ≡ n = wide_at n l t.rows k.wide least.inside in
    let len = length_after t l c least.inside in
    let P : List ℤ → Type 0 = LexPositive in
    record {
      each = λ i j. let i' : i < length t.rows = omega arith in elim (same_or_not i l) [
        | inl g ↦ subst (λ (z : ℕ). P (at_each (row_at (pivot l c t).rows z) cs)) (sym g)
            (subst (λ (row : List ℤ). P (at_each row cs)) (sym (lead_after t l c least.inside)) (subst P (sym (at_each-scale t.over lead cs)) (lex_scale t.over (at_each lead cs) k.positive (r.each l least.inside))))
        | inr g ↦
            let row : List ℤ = row_at t.rows i in
            let f : ℤ = at row c in
            let wide : length row ≡ length lead = wide_at n i t.rows k.wide i' ∙ sym long in
            let same : length (at_each row cs) ≡ length (at_each lead cs) = length-at_each row cs ∙ sym (length-at_each lead cs) in
            let is : at_each (row_at (pivot l c t).rows i) cs ≡ swept p f (at_each row cs) (at_each lead cs) =
            ap (λ (v : List ℤ). at_each v cs) (row_after t l c least.inside i i' g) ∙ at_each-swept p f row lead cs wide in
            by_lt_z (pos 0) f
            (λ h. elim (lex_least p f (at_each row cs) (at_each lead cs) same (least.least i i' h)) [
              | inl q ↦ subst P (sym is) q
              | inr q ↦ absurd (none_zero n opened values slacks (pivot l c t) i after b j (zero_tail _ _ (let Z : List ℤ → Type 0 = AllZero in subst Z (sym is) q)))
            ])
            (λ h. subst P (sym is) (lex_below p f (at_each row cs) (at_each lead cs) same least.positive h (r.each i i') (r.each l least.inside)))
      ];
    }
