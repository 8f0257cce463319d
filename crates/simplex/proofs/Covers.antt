-- Where numbers stand after a pivot.
use Rattle.std.proofs.Common.{◌≡◌, ◌≢◌, sym, ap, subst, ◌∙◌, ℕ, ◌+◌, ◌*◌, ◌<◌, ℤ, pos, ◌-ℤ◌, ◌*ℤ◌, ◌<ℤ◌, arith, List, [], ◌∷◌, length, map, Bool, ◌⊎◌, inl, inr}
use Rattle.std.proofs.lemmas.Int.{ints}
use Rattle.std.proofs.Math.Nat.{mul-pos}
use Rattle.raml_num.proofs.Differences.{diffs, diff-pos, is_diff, diff_same}
use Rattle.raml_num.proofs.Signed.{cancelled}
use Rattle.frac128.specs.declared.Frac.{Frac}
use Rattle.frac128.specs.Values.{IsQuotient}
use Rattle.simplex_rows.specs.Entries.{Entries, at, columns_of, IsLess}
use Rattle.simplex.specs.Among.{Among}
use Rattle.simplex.specs.Standing.{entries_at, AreTouching, IsPivoted}
use Rattle.simplex.specs.Covering.{block_of, blocks_of, IsMarked, Cover, Grow, HasOne}
use Rattle.simplex.proofs.Marks.{inside, block_inside, apart, listed}
use Rattle.simplex_spec.proofs.Pivoting.{same_or_not}

gone : (a : ℤ) (d : ℕ) → 0 < d → a *ℤ pos d ≡ pos 0 → a ≡ pos 0
gone a d h e = cancelled (pos d) a (pos 0) (λ z. omega (arith, ints)) (turned a d ∙ e ∙ nothing d)
  where
    turned : (a : ℤ) (d : ℕ) → pos d *ℤ a ≡ a *ℤ pos d
    turned a d = omega (arith, ints)

    nothing : (d : ℕ) → pos 0 ≡ pos d *ℤ pos 0
    nothing d = omega (arith, ints)

none_times : (a b : ℤ) → a ≡ pos 0 → a *ℤ b ≡ pos 0
none_times a b e = rw e (omega (arith, ints))

times_none : (a b : ℤ) → b ≡ pos 0 → a *ℤ b ≡ pos 0
times_none a b e = rw e (omega (arith, ints))

-- what is 0 over a number is 0
quotient_of_none : (x y q : Frac) → IsQuotient x y q → x.num ≡ pos 0 → y.num ≢ pos 0 → q.num ≡ pos 0
quotient_of_none x y q e z n =
    let p : q.num *ℤ y.num ≡ pos 0 = gone (q.num *ℤ y.num) x.den x.lowest.positive (sym e ∙ none_times x.num (pos (q.den * y.den)) z) in
    cancelled y.num q.num (pos 0) n (turned y.num q.num ∙ p ∙ nothing y.num)
  where
    turned : (a b : ℤ) → a *ℤ b ≡ b *ℤ a
    turned a b = omega (arith, ints)

    nothing : (a : ℤ) → pos 0 ≡ a *ℤ pos 0
    nothing a = omega (arith, ints)

-- and a number over itself is 1
itself_left : (y : ℤ) (q d : ℕ) → (y *ℤ pos d) *ℤ pos q ≡ y *ℤ pos (q * d)
itself_left y q d = rw (is_diff y) (simp (diffs, diff-pos) (diff_same _ _ _ _ (omega arith)))

itself_right : (y q : ℤ) (d : ℕ) → (q *ℤ y) *ℤ pos d ≡ (y *ℤ pos d) *ℤ q
itself_right y q d = rw (is_diff y, is_diff q) (simp (diffs, diff-pos) (diff_same _ _ _ _ (omega arith)))

quotient_itself : (y q : Frac) → IsQuotient y y q → y.num ≢ pos 0 → q.num ≡ pos q.den
quotient_itself y q e n = sym (cancelled (y.num *ℤ pos y.den) (pos q.den) q.num (λ z. n (gone y.num y.den y.lowest.positive z)) (itself_left y.num q.den y.den ∙ e ∙ itself_right y.num q.num y.den))

difference_none : (x p r : Frac) → x.num *ℤ pos p.den ≡ p.num *ℤ pos x.den → r.num *ℤ pos (x.den * p.den) ≡ (x.num *ℤ pos p.den -ℤ p.num *ℤ pos x.den) *ℤ pos r.den → r.num ≡ pos 0
difference_none x p r e d =
    let z : x.num *ℤ pos p.den -ℤ p.num *ℤ pos x.den ≡ pos 0 = omega (arith, ints) in
    gone r.num (x.den * p.den) (mul-pos x.lowest.positive p.lowest.positive) (d ∙ none_times (x.num *ℤ pos p.den -ℤ p.num *ℤ pos x.den) (pos r.den) z)

-- nothing less nothing is nothing
less_none_is_none : (x f q r : Frac) → IsLess x f q r → x.num ≡ pos 0 → (f.num ≡ pos 0) ⊎ (q.num ≡ pos 0) → r.num ≡ pos 0
less_none_is_none x f q r l z one =
    let p : Frac = l.product in
    let m : f.num *ℤ q.num ≡ pos 0 = elim one [ inl e ↦ none_times f.num q.num e | inr e ↦ times_none f.num q.num e ] in
    let n : p.num ≡ pos 0 = gone p.num (f.den * q.den) (mul-pos f.lowest.positive q.lowest.positive) (l.is_product ∙ none_times (f.num *ℤ q.num) (pos p.den) m) in
    difference_none x p r (none_times x.num (pos p.den) z ∙ sym (none_times p.num (pos x.den) n)) l.is_difference

-- a number less itself is nothing
product_left : (p : ℤ) (x q : ℕ) → pos q *ℤ (p *ℤ pos x) ≡ p *ℤ pos (x * q)
product_left p x q = rw (is_diff p) (simp (diffs, diff-pos) (diff_same _ _ _ _ (omega arith)))

product_right : (x : ℤ) (q d : ℕ) → (x *ℤ pos q) *ℤ pos d ≡ pos q *ℤ (x *ℤ pos d)
product_right x q d = rw (is_diff x) (simp (diffs, diff-pos) (diff_same _ _ _ _ (omega arith)))

positive : (n : ℕ) → 0 < n → pos n ≡ pos 0 → ⊥
positive n h e = omega (arith, ints)

less_itself : (x q r : Frac) → IsLess x x q r → q.num ≡ pos q.den → r.num ≡ pos 0
less_itself x q r l e =
    let p : Frac = l.product in
    let m : p.num *ℤ pos x.den ≡ x.num *ℤ pos p.den = cancelled (pos q.den) (p.num *ℤ pos x.den) (x.num *ℤ pos p.den) (positive q.den q.lowest.positive)
    (product_left p.num x.den q.den ∙ l.is_product ∙ ap (λ (z : ℤ). (x.num *ℤ z) *ℤ pos p.den) e ∙ product_right x.num q.den p.den) in
    difference_none x p r (sym m) l.is_difference

pub positive_not_none : {z : ℤ} → pos 0 <ℤ z → z ≢ pos 0
positive_not_none h e = omega (arith, ints)

none_or_not : (z : ℤ) → (z ≡ pos 0) ⊎ (z ≢ pos 0)
none_or_not z = grind (arith, ints)

among_map : (f : ℕ → ℕ) (x : ℕ) (xs : List ℕ) → Among x xs → Among (f x) (map f xs)
among_map f x [] a = absurd a
among_map f x (y ∷ ys) (inl e) = inl (ap f e)
among_map f x (y ∷ ys) (inr a) = inr (among_map f x ys a)

-- marks that cover the rows before a pivot, with the blocks that it touches in the lead's columns, and the lead's
-- alone in the entering column, cover them after it
module _ (n l s : ℕ) (rows : List Entries) (gains : Entries) (new : List Entries) (new_gains : Entries) (touching : List ℕ) (old grown final : List Bool)
    (h : l < length rows) (number : (at s (entries_at rows l)).num ≢ pos 0) (cover : Cover n rows old) (touches : AreTouching s rows touching) (made : IsPivoted l s rows gains new new_gains)
    (grow : Grow (blocks_of (length rows)) (columns_of (entries_at new l)) (map block_of touching) old grown) (one : HasOne (blocks_of (length rows)) s (block_of l) grown final) where
  lead_covered : (c : ℕ) → c < n → (at c (entries_at new l)).num ≢ pos 0 → IsMarked (blocks_of (length rows)) old c (block_of l)
  lead_covered c b m = cover.all c b l h (λ z. m (ap (λ (es : Entries). (at c es).num) made.rows_swept.here ∙ quotient_of_none (at c (entries_at rows l)) (at s (entries_at rows l)) (at c made.lead) (made.quotients c) z number))

  other_covered : (c i : ℕ) → c < n → i < length rows → i ≢ l → (at c (entries_at new i)).num ≢ pos 0 → IsMarked (blocks_of (length rows)) grown c (block_of i)
  other_covered c i b k d m = elim (none_or_not (at c (entries_at rows i)).num) [
    | inr p ↦ grow.kept (c * blocks_of (length rows) + block_of i) (cover.all c b i k p)
    | inl z ↦
        let w = (made.rows_swept.others i k d).each c in
        grow.has c (block_of i) (let low = inside n (blocks_of (length rows)) c (block_of i) b (block_inside (length rows) i k) in let count = cover.places in omega (arith, low, count))
        (listed c (entries_at new l) (λ e. m (less_none_is_none (at c (entries_at rows i)) (at s (entries_at rows i)) (at c made.lead) (at c (entries_at new i)) w z (inr (sym (ap (λ (es : Entries). (at c es).num) made.rows_swept.here) ∙ e)))))
        (among_map block_of i touching (touches.all i k (λ e. m (less_none_is_none (at c (entries_at rows i)) (at s (entries_at rows i)) (at c made.lead) (at c (entries_at new i)) w z (inl e)))))
  ]

  entering_left : (i : ℕ) → i < length rows → i ≢ l → (at s (entries_at new i)).num ≡ pos 0
  entering_left i k d = less_itself (at s (entries_at rows i)) (at s made.lead) (at s (entries_at new i)) ((made.rows_swept.others i k d).each s) (quotient_itself (at s (entries_at rows l)) (at s made.lead) (made.quotients s) number)

  in_grown : (c i : ℕ) → c < n → i < length rows → (at c (entries_at new i)).num ≢ pos 0 → IsMarked (blocks_of (length rows)) grown c (block_of i)
  in_grown c i b k m = elim (same_or_not i l) [
    | inl e ↦ subst (λ (j : ℕ). IsMarked (blocks_of (length rows)) grown c (block_of j)) (sym e) (grow.kept (c * blocks_of (length rows) + block_of l) (lead_covered c b (λ z. m (ap (λ (j : ℕ). (at c (entries_at new j)).num) e ∙ z))))
    | inr d ↦ other_covered c i b k d m
  ]

  in_final : (c i : ℕ) → c < n → i < length rows → (at c (entries_at new i)).num ≢ pos 0 → IsMarked (blocks_of (length rows)) final c (block_of i)
  in_final c i b k m = elim (same_or_not c s) [
    | inl e ↦ elim (same_or_not i l) [
      | inl f ↦ rw (e, f) one.here
      | inr d ↦ absurd (m (ap (λ (z : ℕ). (at z (entries_at new i)).num) e ∙ entering_left i k d))
    ]
    | inr d ↦ one.others (c * blocks_of (length rows) + block_of i) (apart (blocks_of (length rows)) c s (block_of i) d (block_inside (length rows) i k)) ∙ in_grown c i b k m
  ]

  pub covered : Cover n new final
  covered =
      let count : length new ≡ length rows = made.rows_swept.count in
      record {
        places = one.places ∙ grow.places ∙ cover.places ∙ ap (λ (m : ℕ). n * blocks_of m) (sym count);
        all = λ c b i k m. subst (λ (m : ℕ). IsMarked (blocks_of m) final c (block_of i)) (sym count) (in_final c i b (subst (λ (m : ℕ). i < m) count k) m);
      }
