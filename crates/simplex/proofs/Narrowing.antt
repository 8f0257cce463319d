-- Rows that are tied in some columns, and in one column more.
use Rattle.std.proofs.Common.{◌≡◌, ◌≢◌, refl, sym, ap, subst, ◌∙◌, ℕ, zero, suc, ◌+◌, ◌-◌, ◌*◌, ◌<◌, ◌≤◌, ℤ, pos, ◌*ℤ◌, ◌<ℤ◌, arith, List, [], ◌∷◌, ◌++◌, length, get_or, take, ◌⊎◌, inl, inr}
use Rattle.std.proofs.lemmas.Int.{ints}
use Rattle.std.proofs.lemmas.Cmp.{int_ranked}
use Rattle.std.specs.declared.cmp.Ordering.TheVariants.{Less}
use Rattle.std.proofs.Math.Nat.{mul-pos}
use borrow.Author.Differences.{up}
use lib.IntN.{*ℤ_comm}
use Rattle.raml_num.proofs.Differences.{diffs, diff-pos, is_diff, diff_same}
use Rattle.raml_num.proofs.Signed.{cancelled, natural, lt_mul, lt_cancel}
use Rattle.frac128.specs.declared.Frac.{Frac}
use Rattle.frac128.specs.Values.{IsQuotient}
use Rattle.frac128.specs.Nought.{nought}
use Rattle.simplex_rows.specs.Entries.{Entries, at}
use Rattle.linear_rows.specs.Vectors.{scale}
use Rattle.simplex_spec.specs.Places.{row_at, at_each, counted}
use Rattle.simplex_spec.specs.Places as places
use Rattle.simplex_spec.specs.Tableaux.{Tableau, LexAtMost, IsLeastRow}
use Rattle.simplex_spec.specs.Refusals.{NoFraction, IsCompared}
use Rattle.simplex_spec.proofs.Pivoting.{above, same_or_not}
use Rattle.simplex.specs.Standing.{Stands, RowsStand, entries_at}
use Rattle.simplex.specs.Among.{Among, AllDiffer}
use Rattle.simplex.specs.Ties.{IsBounding, AreBounding, IsRatio, AreTied, RatioLeaves, IsExiting, SearchLeaves, columns_to}
use Rattle.simplex.proofs.Rows.{among_or_not, among_take_more, take_whole}
use Rattle.simplex.proofs.Lifting.{quotient_stands, quotient_is_there, no_quotient}

-- as far as both go: less where they first differ, and they differ
abbrev pub LexLess : List ℤ → List ℤ → Type 0
LexLess [] ys = ⊥
LexLess (x ∷ xs) [] = ⊥
LexLess (x ∷ xs) (y ∷ ys) = (x <ℤ y) ⊎ ((x ≡ y) × LexLess xs ys)

pub less_at_most : (xs ys : List ℤ) → LexLess xs ys → LexAtMost xs ys
less_at_most [] ys l = tt
less_at_most (x ∷ xs) [] l = tt
less_at_most (x ∷ xs) (y ∷ ys) (inl l) = inl l
less_at_most (x ∷ xs) (y ∷ ys) (inr l) = inr (l.0, less_at_most xs ys l.1)

pub same_at_most : (xs ys : List ℤ) → xs ≡ ys → LexAtMost xs ys
same_at_most xs ys e = subst (LexAtMost xs) e (itself xs)
  where
    itself : (xs : List ℤ) → LexAtMost xs xs
    itself [] = tt
    itself (x ∷ xs) = inr (refl, itself xs)

pub not_both : (xs ys : List ℤ) → LexLess xs ys → LexAtMost ys xs → ⊥
not_both [] ys l m = l
not_both (x ∷ xs) [] l m = l
not_both (x ∷ xs) (y ∷ ys) (inl l) (inl m) = omega (arith, ints)
not_both (x ∷ xs) (y ∷ ys) (inl l) (inr m) = let e = m.0 in omega (arith, ints)
not_both (x ∷ xs) (y ∷ ys) (inr l) (inl m) = let e = l.0 in omega (arith, ints)
not_both (x ∷ xs) (y ∷ ys) (inr l) (inr m) = not_both xs ys l.1 m.1

-- in more columns
pub less_more : (xs ys us vs : List ℤ) → LexLess xs ys → LexLess (xs ++ us) (ys ++ vs)
less_more [] ys us vs l = absurd l
less_more (x ∷ xs) [] us vs l = absurd l
less_more (x ∷ xs) (y ∷ ys) us vs (inl l) = inl l
less_more (x ∷ xs) (y ∷ ys) us vs (inr l) = inr (l.0, less_more xs ys us vs l.1)

pub less_then : (xs ys us vs : List ℤ) → xs ≡ ys → LexLess us vs → LexLess (xs ++ us) (ys ++ vs)
less_then xs ys us vs e l = subst (λ (zs : List ℤ). LexLess (xs ++ us) (zs ++ vs)) e (go xs)
  where
    go : (zs : List ℤ) → LexLess (zs ++ us) (zs ++ vs)
    go [] = l
    go (z ∷ zs) = inr (refl, go zs)

pub most_front : (xs ys us vs : List ℤ) → length xs ≡ length ys → LexAtMost (xs ++ us) (ys ++ vs) → LexAtMost xs ys
most_front [] ys us vs e l = tt
most_front (x ∷ xs) [] us vs e l = tt
most_front (x ∷ xs) (y ∷ ys) us vs e (inl l) = inl l
most_front (x ∷ xs) (y ∷ ys) us vs e (inr l) = inr (l.0, most_front xs ys us vs (omega arith) l.1)

scale-append : (k : ℤ) (xs ys : List ℤ) → scale k (xs ++ ys) ≡ scale k xs ++ scale k ys
scale-append k [] ys = refl
scale-append k (x ∷ xs) ys = ap (λ (zs : List ℤ). (k *ℤ x) ∷ zs) (scale-append k xs ys)

at_each-append : (v : List ℤ) (cs ds : List ℕ) → at_each v (cs ++ ds) ≡ at_each v cs ++ at_each v ds
at_each-append v [] ds = refl
at_each-append v (c ∷ cs) ds = ap (λ (zs : List ℤ). places.at v c ∷ zs) (at_each-append v cs ds)

length-scaled : (k : ℤ) (v : List ℤ) (cs : List ℕ) → length (scale k (at_each v cs)) ≡ length cs
length-scaled k v [] = refl
length-scaled k v (c ∷ cs) = omega (arith, length-scaled k v cs)

-- row i's numbers in some columns, times row m's number at column s
abbrev pub crossed : Tableau → ℕ → List ℕ → ℕ → ℕ → List ℤ
crossed t s cs i m = scale (places.at (row_at t.rows m) s) (at_each (row_at t.rows i) cs)

pub crossed-append : (t : Tableau) (s : ℕ) (cs ds : List ℕ) (i m : ℕ) → crossed t s (cs ++ ds) i m ≡ crossed t s cs i m ++ crossed t s ds i m
crossed-append t s cs ds i m = ap (scale (places.at (row_at t.rows m) s)) (at_each-append (row_at t.rows i) cs ds) ∙ scale-append (places.at (row_at t.rows m) s) (at_each (row_at t.rows i) cs) (at_each (row_at t.rows i) ds)

pub record Bounds (t : Tableau) (s i : ℕ) : Type 0 where
  pub inside : i < length t.rows
  pub positive : pos 0 <ℤ places.at (row_at t.rows i) s

-- the rows in tied are the same over their numbers at column s in the columns cs, and less than all others;
-- and each ratio that the search looked at there is in the range
pub record TiedIn (t : Tableau) (s : ℕ) (cs : List ℕ) (tied : List ℕ) : Type 0 where
  pub only : (i : ℕ) → Among i tied → Bounds t s i
  pub same : (i m : ℕ) → Among i tied → Among m tied → crossed t s cs i m ≡ crossed t s cs m i
  pub less : (i m : ℕ) → Among i tied → Bounds t s m → (Among m tied → ⊥) → LexLess (crossed t s cs i m) (crossed t s cs m i)
  pub some : (j : ℕ) × Among j tied
  pub looked : (before : List ℕ) (c : ℕ) (after : List ℕ) → cs ≡ before ++ c ∷ after → (i : ℕ) → IsLeastRow before s t i → NoFraction (places.at (row_at t.rows i) c) (places.at (row_at t.rows i) s) → ⊥

-- they are the least rows
pub least_row : (t : Tableau) (s : ℕ) (cs tied : List ℕ) (i : ℕ) → TiedIn t s cs tied → Among i tied → IsLeastRow cs s t i
least_row t s cs tied i h a = record {
  inside = (h.only i a).inside;
  positive = (h.only i a).positive;
  least = λ m l p. elim (among_or_not m tied) [
    | inl b ↦ same_at_most (crossed t s cs i m) (crossed t s cs m i) (h.same i m a b)
    | inr n ↦ less_at_most (crossed t s cs i m) (crossed t s cs m i) (h.less i m a (record { inside = l; positive = p }) n)
  ];
}

pub is_tied : (t : Tableau) (s : ℕ) (cs tied : List ℕ) (i : ℕ) → TiedIn t s cs tied → IsLeastRow cs s t i → Among i tied
is_tied t s cs tied i h r = elim (among_or_not i tied) [
  | inl a ↦ a
  | inr n ↦
      let j : ℕ = h.some.0 in
      let b : Bounds t s j = h.only j h.some.1 in
      absurd (not_both (crossed t s cs j i) (crossed t s cs i j) (h.less j i h.some.1 (record { inside = r.inside; positive = r.positive }) n) (r.least j b.inside b.positive))
]

-- signs and orders of what fractions stand for
positive-natural : (x : ℤ) → pos 0 <ℤ x → x ≡ pos (up x)
positive-natural x h = natural x (omega (arith, ints))

pub same_sign : (X D N : ℤ) (d : ℕ) → pos 0 <ℤ D → X *ℤ D ≡ N *ℤ pos d → 0 < d → pos 0 <ℤ X → pos 0 <ℤ N
same_sign X D N d hd e h p =
    let c : N *ℤ pos d ≡ pos d *ℤ N = *ℤ_comm N (pos d) in
    let z : pos d *ℤ pos 0 ≡ pos 0 = omega (arith, ints) in
    let a : pos 0 <ℤ (X *ℤ D) = above X D p hd in
    lt_cancel (pos 0) N d (omega (arith, ints))

pub sign_back : (X D N : ℤ) (d : ℕ) → pos 0 <ℤ D → X *ℤ D ≡ N *ℤ pos d → 0 < d → pos 0 <ℤ N → pos 0 <ℤ X
sign_back X D N d hd e h p =
    let k : D ≡ pos (up D) = positive-natural D hd in
    let c : X *ℤ D ≡ D *ℤ X = *ℤ_comm X D in
    let z : pos (up D) *ℤ pos 0 ≡ pos 0 = omega (arith, ints) in
    let a : pos 0 <ℤ (N *ℤ pos d) = above N (pos d) p (omega (arith, ints)) in
    let b : pos 0 <ℤ (pos (up D) *ℤ X) = subst (λ (w : ℤ). pos 0 <ℤ (w *ℤ X)) k (subst (λ (w : ℤ). pos 0 <ℤ w) (sym e ∙ c) a) in
    lt_cancel (pos 0) X (up D) (omega (arith, ints))

-- L p = a l and L q = b l give q a = p b
turn_in : (q a : ℤ) (l : ℕ) → pos l *ℤ (q *ℤ a) ≡ q *ℤ (a *ℤ pos l)
turn_in q a l = rw (is_diff q, is_diff a) (simp (diffs, diff-pos) (diff_same _ _ _ _ (omega arith)))

turn_over : (q L p : ℤ) → q *ℤ (L *ℤ p) ≡ p *ℤ (L *ℤ q)
turn_over q L p = rw (is_diff q, is_diff L, is_diff p) (simp diffs (diff_same _ _ _ _ (omega arith)))

equal_ratios : (L p q a b : ℤ) (l : ℕ) → 0 < l → L *ℤ p ≡ a *ℤ pos l → L *ℤ q ≡ b *ℤ pos l → q *ℤ a ≡ p *ℤ b
equal_ratios L p q a b l h e f =
    cancelled (pos l) (q *ℤ a) (p *ℤ b) (λ z. omega (arith, ints))
    (turn_in q a l ∙ ap (λ (w : ℤ). q *ℤ w) (sym e) ∙ turn_over q L p ∙ ap (λ (w : ℤ). p *ℤ w) f ∙ sym (turn_in p b l))

-- L y < Y l, L p = a l and Y q = b y give q a < p b
left_ratio : (L : ℤ) (p q l y : ℕ) → pos (p * q) *ℤ (L *ℤ pos y) ≡ (pos q *ℤ (L *ℤ pos p)) *ℤ pos y
left_ratio L p q l y = rw (is_diff L) (simp (diffs, diff-pos) (diff_same _ _ _ _ (omega arith)))

left_out : (a : ℤ) (q l y : ℕ) → (pos q *ℤ (a *ℤ pos l)) *ℤ pos y ≡ pos (l * y) *ℤ (pos q *ℤ a)
left_out a q l y = rw (is_diff a) (simp (diffs, diff-pos) (diff_same _ _ _ _ (omega arith)))

right_ratio : (Y : ℤ) (p q l y : ℕ) → pos (p * q) *ℤ (Y *ℤ pos l) ≡ (pos p *ℤ (Y *ℤ pos q)) *ℤ pos l
right_ratio Y p q l y = rw (is_diff Y) (simp (diffs, diff-pos) (diff_same _ _ _ _ (omega arith)))

right_out : (b : ℤ) (p l y : ℕ) → (pos p *ℤ (b *ℤ pos y)) *ℤ pos l ≡ pos (l * y) *ℤ (pos p *ℤ b)
right_out b p l y = rw (is_diff b) (simp (diffs, diff-pos) (diff_same _ _ _ _ (omega arith)))

less_ratio : (L Y a b : ℤ) (p q l y : ℕ) → 0 < p → 0 < q → (L *ℤ pos y) <ℤ (Y *ℤ pos l) → L *ℤ pos p ≡ a *ℤ pos l → Y *ℤ pos q ≡ b *ℤ pos y → (pos q *ℤ a) <ℤ (pos p *ℤ b)
less_ratio L Y a b p q l y hp hq h e f =
    let m : (pos (p * q) *ℤ (L *ℤ pos y)) <ℤ (pos (p * q) *ℤ (Y *ℤ pos l)) = lt_mul (L *ℤ pos y) (Y *ℤ pos l) (p * q) (mul-pos hp hq) h in
    let i : pos (p * q) *ℤ (L *ℤ pos y) ≡ pos (l * y) *ℤ (pos q *ℤ a) = left_ratio L p q l y ∙ ap (λ (w : ℤ). (pos q *ℤ w) *ℤ pos y) e ∙ left_out a q l y in
    let j : pos (p * q) *ℤ (Y *ℤ pos l) ≡ pos (l * y) *ℤ (pos p *ℤ b) = right_ratio Y p q l y ∙ ap (λ (w : ℤ). (pos p *ℤ w) *ℤ pos l) f ∙ right_out b p l y in
    lt_cancel (pos q *ℤ a) (pos p *ℤ b) (l * y) (omega (arith, ints))

less_ratios : (L Y p q a b : ℤ) (l y : ℕ) → pos 0 <ℤ p → pos 0 <ℤ q → (L *ℤ pos y) <ℤ (Y *ℤ pos l) → L *ℤ p ≡ a *ℤ pos l → Y *ℤ q ≡ b *ℤ pos y → (q *ℤ a) <ℤ (p *ℤ b)
less_ratios L Y p q a b l y hp hq h e f =
    let i : p ≡ pos (up p) = positive-natural p hp in
    let j : q ≡ pos (up q) = positive-natural q hq in
    let r : (pos (up q) *ℤ a) <ℤ (pos (up p) *ℤ b) = less_ratio L Y a b (up p) (up q) l y (omega (arith, ints)) (omega (arith, ints)) h (ap (λ (w : ℤ). L *ℤ w) (sym i) ∙ e) (ap (λ (w : ℤ). Y *ℤ w) (sym j) ∙ f) in
    subst (λ (w : ℤ). (q *ℤ a) <ℤ (w *ℤ b)) (sym i) (subst (λ (w : ℤ). (w *ℤ a) <ℤ (pos (up p) *ℤ b)) (sym j) r)

-- where a list ends
split_last : (cs before after : List ℕ) (c k : ℕ) → cs ++ c ∷ [] ≡ before ++ k ∷ after → ((mid : List ℕ) × (cs ≡ before ++ k ∷ mid)) ⊎ ((before ≡ cs) × (k ≡ c))
split_last [] [] after c k e = let h : c ≡ k = cc in inr (refl, sym h)
split_last [] (b ∷ bs) after c k e = let t : [] ≡ bs ++ k ∷ after = cc in absurd (no_end bs t)
  where
    no_end : (bs : List ℕ) → [] ≡ bs ++ k ∷ after → ⊥
    no_end [] e = absurd (cc)
    no_end (b ∷ bs) e = absurd (cc)
split_last (d ∷ cs) [] after c k e = let h : d ≡ k = cc in inl (cs, ap (λ (z : ℕ). z ∷ cs) h)
split_last (d ∷ cs) (b ∷ bs) after c k e =
    let h : d ≡ b = cc in
    let t : cs ++ c ∷ [] ≡ bs ++ k ∷ after = cc in
    elim (split_last cs bs after c k t) [
      | inl m ↦ inl (m.0, cong_cons d b cs (bs ++ k ∷ m.0) h m.1)
      | inr m ↦ inr (cong_cons b d bs cs (sym h) m.0, m.1)
    ]
  where
    cong_cons : (x y : ℕ) (xs ys : List ℕ) → x ≡ y → xs ≡ ys → x ∷ xs ≡ y ∷ ys
    cong_cons x y xs ys e f = rw (e, f) refl

module _ (t : Tableau) (positive : pos 0 <ℤ t.over) (s : ℕ) (rows : List Entries) (stand : RowsStand t rows) where
  number : (i c : ℕ) → i < length t.rows → Stands t.over (places.at (row_at t.rows i) c) (at c (entries_at rows i))
  number i c h = (stand.each i h).each c

  pub bounds_of : (i : ℕ) → IsBounding s rows i → Bounds t s i
  bounds_of i b =
      let n = stand.count in
      let l = b.inside in
      let h : i < length t.rows = omega arith in
      record { inside = h; positive = same_sign _ t.over _ _ positive (number i s h).is (at s (entries_at rows i)).lowest.positive b.positive }

  pub bounding_of : (i : ℕ) → Bounds t s i → IsBounding s rows i
  bounding_of i b =
      let n = stand.count in
      let l = b.inside in
      record { inside = omega arith; positive = sign_back (at s (entries_at rows i)).num t.over (places.at (row_at t.rows i) s) (at s (entries_at rows i)).den positive (number i s b.inside).is (at s (entries_at rows i)).lowest.positive b.positive }

  ratio_stands : (c i : ℕ) (x : Frac) → Bounds t s i → IsRatio s c rows i x → Stands (places.at (row_at t.rows i) s) (places.at (row_at t.rows i) c) x
  ratio_stands c i x b r = quotient_stands t.over (places.at (row_at t.rows i) c) (places.at (row_at t.rows i) s) (at c (entries_at rows i)) (at s (entries_at rows i)) x (number i c b.inside) (number i s b.inside) r

  ratio_there : (c i : ℕ) (x : Frac) → Bounds t s i → IsRatio s c rows i x → NoFraction (places.at (row_at t.rows i) c) (places.at (row_at t.rows i) s) → ⊥
  ratio_there c i x b r = quotient_is_there t.over (places.at (row_at t.rows i) c) (places.at (row_at t.rows i) s) (at c (entries_at rows i)) (at s (entries_at rows i)) x (number i c b.inside) (number i s b.inside) r

  no_front : (before : List ℕ) (c : ℕ) (after : List ℕ) → [] ≡ before ++ c ∷ after → ⊥
  no_front [] c after e = absurd (cc)
  no_front (b ∷ bs) c after e = absurd (cc)

  -- in no column, all rows with a positive number are tied
  pub tied_at_first : (all : List ℕ) → AreBounding s rows all → (j : ℕ) × Among j all → TiedIn t s [] all
  tied_at_first all b j = record {
    only = λ i a. bounds_of i (b.only i a);
    same = λ i m a d. refl;
    less = λ i m a d n. absurd (n (b.all m (bounding_of m d)));
    some = j;
    looked = λ before c after e. absurd (no_front before c after e);
  }

  module _ (c : ℕ) (cs tied new : List ℕ) (least : Frac) (h : TiedIn t s cs tied) (r : AreTied s c rows tied new least) where
    one_same : (i m : ℕ) → Among i new → Among m new → crossed t s (c ∷ []) i m ≡ crossed t s (c ∷ []) m i
    one_same i m a b =
        let p = ratio_stands c i least (h.only i (r.subset i a)) (r.least_ratio i a) in
        let q = ratio_stands c m least (h.only m (r.subset m b)) (r.least_ratio m b) in
        let e = equal_ratios least.num (places.at (row_at t.rows i) s) (places.at (row_at t.rows m) s) (places.at (row_at t.rows i) c) (places.at (row_at t.rows m) c) least.den least.lowest.positive p.is q.is in
        ap (λ (z : ℤ). z ∷ []) e

    one_less : (i m : ℕ) → Among i new → Among m tied → (Among m new → ⊥) → LexLess (crossed t s (c ∷ []) i m) (crossed t s (c ∷ []) m i)
    one_less i m a b n =
        let g = r.greater m b n in
        let y : Frac = g.0 in
        let bi = h.only i (r.subset i a) in
        let bm = h.only m b in
        let p = ratio_stands c i least bi (r.least_ratio i a) in
        let q = ratio_stands c m y bm g.1 in
        let o : (least.num *ℤ pos y.den) <ℤ (y.num *ℤ pos least.den) = int_ranked (least.num *ℤ pos y.den) (y.num *ℤ pos least.den) Less (sym g.2) in
        inl (less_ratios least.num y.num (places.at (row_at t.rows i) s) (places.at (row_at t.rows m) s) (places.at (row_at t.rows i) c) (places.at (row_at t.rows m) c) least.den y.den bi.positive bm.positive o p.is q.is)

    joined : (i m : ℕ) → LexLess (crossed t s cs i m ++ crossed t s (c ∷ []) i m) (crossed t s cs m i ++ crossed t s (c ∷ []) m i) → LexLess (crossed t s (cs ++ c ∷ []) i m) (crossed t s (cs ++ c ∷ []) m i)
    joined i m l = let L : List ℤ → List ℤ → Type 0 = LexLess in subst (λ (xs : List ℤ). L xs (crossed t s (cs ++ c ∷ []) m i)) (sym (crossed-append t s cs (c ∷ []) i m))
        (subst (λ (ys : List ℤ). L (crossed t s cs i m ++ crossed t s (c ∷ []) i m) ys) (sym (crossed-append t s cs (c ∷ []) m i)) l)

    looked_here : (i : ℕ) → IsLeastRow cs s t i → NoFraction (places.at (row_at t.rows i) c) (places.at (row_at t.rows i) s) → ⊥
    looked_here i l =
        let a : Among i tied = is_tied t s cs tied i h l in
        elim (among_or_not i new) [
          | inl b ↦ ratio_there c i least (h.only i a) (r.least_ratio i b)
          | inr n ↦ let g = r.greater i a n in ratio_there c i g.0 (h.only i a) g.1
        ]

    -- in one column more, those with the least ratio are tied
    pub narrower : TiedIn t s (cs ++ c ∷ []) new
    narrower = record {
      only = λ i a. h.only i (r.subset i a);
      same = λ i m a b. crossed-append t s cs (c ∷ []) i m ∙ ap (λ (xs : List ℤ). xs ++ crossed t s (c ∷ []) i m) (h.same i m (r.subset i a) (r.subset m b)) ∙ ap (λ (xs : List ℤ). crossed t s cs m i ++ xs) (one_same i m a b) ∙ sym (crossed-append t s cs (c ∷ []) m i);
      less = λ i m a b n. joined i m (elim (among_or_not m tied) [
        | inl d ↦ less_then (crossed t s cs i m) (crossed t s cs m i) (crossed t s (c ∷ []) i m) (crossed t s (c ∷ []) m i) (h.same i m (r.subset i a) d) (one_less i m a d n)
        | inr d ↦ less_more (crossed t s cs i m) (crossed t s cs m i) (crossed t s (c ∷ []) i m) (crossed t s (c ∷ []) m i) (h.less i m (r.subset i a) b d)
      ]);
      some = r.some h.some.0 h.some.1;
      looked = λ before k after e i l. elim (split_last cs before after c k e) [
        | inl m ↦ h.looked before k m.0 m.1 i l
        | inr m ↦ subst (λ (z : ℕ). NoFraction (places.at (row_at t.rows i) z) (places.at (row_at t.rows i) s) → ⊥) (sym m.1) (looked_here i (subst (λ (z : List ℕ). IsLeastRow z s t i) m.0 l))
      ];
    }

-- the rows that are tied in the columns cs, whatever tableau the rows stand for
pub record Narrowed (cs : List ℕ) (s : ℕ) (rows : List Entries) (tied : List ℕ) : Type 0 where
  pub tied_in : (t : Tableau) → pos 0 <ℤ t.over → RowsStand t rows → TiedIn t s cs tied
  pub bounding : (i : ℕ) → Among i tied → IsBounding s rows i
  pub differ : AllDiffer tied
  pub some : (j : ℕ) × Among j tied

pub narrowed_first : (c s : ℕ) (rows : List Entries) (all tied : List ℕ) (least : Frac) → AreBounding s rows all → (j : ℕ) × Among j all → AreTied s c rows all tied least → Narrowed (c ∷ []) s rows tied
narrowed_first c s rows all tied least b j r = record {
  tied_in = λ t p stand. narrower t p s rows stand c [] all tied least (tied_at_first t p s rows stand all b j) r;
  bounding = λ i a. b.only i (r.subset i a);
  differ = r.differ b.differ;
  some = r.some j.0 j.1;
}

pub narrowed_next : (cs : List ℕ) (c s : ℕ) (rows : List Entries) (tied new : List ℕ) (least : Frac) → Narrowed cs s rows tied → AreTied s c rows tied new least → Narrowed (cs ++ c ∷ []) s rows new
narrowed_next cs c s rows tied new least n r = record {
  tied_in = λ t p stand. narrower t p s rows stand c cs tied new least (n.tied_in t p stand) r;
  bounding = λ i a. n.bounding i (r.subset i a);
  differ = r.differ n.differ;
  some = r.some n.some.0 n.some.1;
}

-- the columns that are compared, up to one
counted-more : (k n : ℕ) → counted k (n + 1) ≡ counted k n ++ (k + n) ∷ []
counted-more k zero = let e : k ≡ k + 0 = omega arith in ap (λ (z : ℕ). z ∷ []) e
counted-more k (suc n) =
    let e : suc n + 1 ≡ suc (n + 1) = omega arith in
    let f : suc k + n ≡ k + suc n = omega arith in
    ap (counted k) e ∙ ap (λ (zs : List ℕ). k ∷ zs) (counted-more (suc k) n ∙ ap (λ (z : ℕ). counted (suc k) n ++ z ∷ []) f)

pub columns_first : (right slack : ℕ) → columns_to right slack slack ≡ right ∷ []
columns_first right slack = let e : slack - slack ≡ 0 = omega arith in ap (λ (n : ℕ). right ∷ counted slack n) e

pub columns_next : (right slack column : ℕ) → slack ≤ column → columns_to right slack (column + 1) ≡ columns_to right slack column ++ column ∷ []
columns_next right slack column h =
    let e : (column + 1) - slack ≡ (column - slack) + 1 = omega arith in
    let f : slack + (column - slack) ≡ column = omega arith in
    ap (λ (n : ℕ). right ∷ counted slack n) e ∙ ap (λ (zs : List ℕ). right ∷ zs) (counted-more slack (column - slack) ∙ ap (λ (z : ℕ). counted slack (column - slack) ++ z ∷ []) f)

counted-split : (k n m : ℕ) → counted k (n + m) ≡ counted k n ++ counted (k + n) m
counted-split k zero m = let e : 0 + m ≡ m = omega arith in let f : k ≡ k + 0 = omega arith in ap (counted k) e ∙ ap (λ (z : ℕ). counted z m) f
counted-split k (suc n) m =
    let e : suc n + m ≡ suc (n + m) = omega arith in
    let f : suc k + n ≡ k + suc n = omega arith in
    ap (counted k) e ∙ ap (λ (zs : List ℕ). k ∷ zs) (counted-split (suc k) n m ∙ ap (λ (z : ℕ). counted (suc k) n ++ counted z m) f)

pub columns_rest : (right slack column : ℕ) → slack ≤ column → column ≤ right → columns_to right slack right ≡ columns_to right slack column ++ counted column (right - column)
columns_rest right slack column h l =
    let e : right - slack ≡ (column - slack) + (right - column) = omega arith in
    let f : slack + (column - slack) ≡ column = omega arith in
    ap (λ (n : ℕ). right ∷ counted slack n) e ∙ ap (λ (zs : List ℕ). right ∷ zs) (counted-split slack (column - slack) (right - column) ∙ ap (λ (z : ℕ). counted slack (column - slack) ++ counted z (right - column)) f)

pub columns_at : (right slack column : ℕ) → slack ≤ column → column < right → columns_to right slack right ≡ columns_to right slack column ++ column ∷ counted (column + 1) (right - (column + 1))
columns_at right slack column h l =
    let e : right - column ≡ suc (right - (column + 1)) = omega arith in
    let f : suc column ≡ column + 1 = omega arith in
    columns_rest right slack column h (omega arith) ∙ ap (λ (n : ℕ). columns_to right slack column ++ counted column n) e ∙ ap (λ (n : ℕ). columns_to right slack column ++ column ∷ counted n (right - (column + 1))) f

-- from one column to another these rows have 0
pub record NoneBetween (from to : ℕ) (rows : List Entries) (is : List ℕ) : Type 0 where
  pub none : (i k : ℕ) → Among i is → from ≤ k → k < to → at k (entries_at rows i) ≡ nought

pub none_at_first : (from to : ℕ) (rows : List Entries) → NoneBetween from to rows []
none_at_first from to rows = record { none = λ i k a h l. absurd a }

pub none_more : (k from least new : ℕ) (rows : List Entries) (among : List ℕ) (es : Entries) → k < length among → es ≡ entries_at rows (get_or among k 0) → NoneBetween from least rows (take k among) → new ≤ least → ((q : ℕ) → from ≤ q → q < new → at q es ≡ nought)
    → NoneBetween from new rows (take (k + 1) among)
none_more k from least new rows among es h e b l none = record {
  none = λ i q a f m. elim (among_take_more k among i h a) [
    | inl c ↦ b.none i q c f (omega arith)
    | inr s ↦ ap (λ (z : ℕ). at q (entries_at rows z)) s ∙ ap (at q) (sym e) ∙ none q f m
  ];
}

pub none_whole : (k from to : ℕ) (rows : List Entries) (among : List ℕ) → length among ≤ k → NoneBetween from to rows (take k among) → NoneBetween from to rows among
none_whole k from to rows among h b = subst (NoneBetween from to rows) (take_whole k among h) b

-- where all that are tied have 0, all stay tied
none_over : (by : Frac) → IsQuotient nought by nought
none_over by = omega (arith, ints)

all_tie : (c s : ℕ) (rows : List Entries) (tied : List ℕ) → ((i : ℕ) → Among i tied → at c (entries_at rows i) ≡ nought) → AreTied s c rows tied tied nought
all_tie c s rows tied none = record {
  subset = λ i a. a;
  least_ratio = λ i a. subst (λ (x : Frac). IsQuotient x (at s (entries_at rows i)) nought) (sym (none i a)) (none_over (at s (entries_at rows i)));
  greater = λ i a n. absurd (n a);
  some = λ i a. (i, a);
  differ = λ d. d;
}

pub narrowed_past : (n right slack column s : ℕ) (rows : List Entries) (tied : List ℕ) → slack ≤ column → ((i k : ℕ) → Among i tied → column ≤ k → k < column + n → at k (entries_at rows i) ≡ nought) → Narrowed (columns_to right slack column) s rows tied
    → Narrowed (columns_to right slack (column + n)) s rows tied
narrowed_past zero right slack column s rows tied h none narrowed = let e : column ≡ column + 0 = omega arith in subst (λ (c : ℕ). Narrowed (columns_to right slack c) s rows tied) e narrowed
narrowed_past (suc n) right slack column s rows tied h none narrowed =
    let e : (column + 1) + n ≡ column + suc n = omega arith in
    let one : Narrowed (columns_to right slack (column + 1)) s rows tied =
    subst (λ (cs : List ℕ). Narrowed cs s rows tied) (sym (columns_next right slack column h)) (narrowed_next (columns_to right slack column) column s rows tied tied nought narrowed (all_tie column s rows tied (λ i a. none i column a (omega arith) (omega arith)))) in
    subst (λ (c : ℕ). Narrowed (columns_to right slack c) s rows tied) e (narrowed_past n right slack (column + 1) s rows tied (omega arith) (λ i k a l m. none i k a (omega arith) (omega arith)) one)

pub narrowed_to : (right slack from to s : ℕ) (rows : List Entries) (tied : List ℕ) → slack ≤ from → from ≤ to → ((i k : ℕ) → Among i tied → from ≤ k → k < to → at k (entries_at rows i) ≡ nought) → Narrowed (columns_to right slack from) s rows tied
    → Narrowed (columns_to right slack to) s rows tied
narrowed_to right slack from to s rows tied h l none narrowed =
    let e : from + (to - from) ≡ to = omega arith in
    subst (λ (c : ℕ). Narrowed (columns_to right slack c) s rows tied) e (narrowed_past (to - from) right slack from s rows tied h (λ i k a f m. none i k a f (omega arith)) narrowed)

-- another row that is tied
pub another_tied : (tied : List ℕ) (i : ℕ) → AllDiffer tied → 1 < length tied → (m : ℕ) × (m ≢ i) × Among m tied
another_tied [] i d h = absurd (omega arith)
another_tied (x ∷ []) i d h = absurd (omega arith)
another_tied (x ∷ y ∷ xs) i d h = elim (same_or_not x i) [
  | inl e ↦ (y, (λ f. d.0 (inl (e ∙ sym f))), inr (inl refl))
  | inr n ↦ (x, n, inl refl)
]

-- where the search meets a ratio that leaves the range
pub search_first : (cs after : List ℕ) (c s : ℕ) (rows : List Entries) (all : List ℕ) (i k : ℕ) → cs ≡ c ∷ after → AreBounding s rows all → RatioLeaves s c rows all i k → SearchLeaves cs s rows i k
search_first cs after c s rows all i k e b r = record {
  leaves = λ t p stand.
      let tied = tied_at_first t p s rows stand all b (i, r.is_among) in
      let bound = bounds_of t p s rows stand i (b.only i r.is_among) in (
        record { before = []; after = after; is_next = e ∙ ap (λ (z : ℕ). z ∷ after) (sym r.at_column); tied = least_row t s [] all i tied r.is_among; another = inl refl },
        no_quotient t.over (places.at (row_at t.rows i) k) (places.at (row_at t.rows i) s) (at k (entries_at rows i)) (at s (entries_at rows i)) p ((stand.each i bound.inside).each k) ((stand.each i bound.inside).each s) r.leaves,
      );
}

pub search_next : (cs front after : List ℕ) (c s : ℕ) (rows : List Entries) (tied : List ℕ) (i k : ℕ) → cs ≡ front ++ c ∷ after → Narrowed front s rows tied → 1 < length tied → RatioLeaves s c rows tied i k → SearchLeaves cs s rows i k
search_next cs front after c s rows tied i k e n l r = record {
  leaves = λ t p stand.
      let h = n.tied_in t p stand in
      let bound = h.only i r.is_among in
      let m = another_tied tied i n.differ l in (
        record { before = front; after = after; is_next = e ∙ ap (λ (z : ℕ). front ++ z ∷ after) (sym r.at_column); tied = least_row t s front tied i h r.is_among; another = inr (m.0, m.1, least_row t s front tied m.0 h m.2) },
        no_quotient t.over (places.at (row_at t.rows i) k) (places.at (row_at t.rows i) s) (at k (entries_at rows i)) (at s (entries_at rows i)) p ((stand.each i bound.inside).each k) ((stand.each i bound.inside).each s) r.leaves,
      );
}

-- where the search ends
all_looked : (cs : List ℕ) (s : ℕ) (rows : List Entries) (tied : List ℕ) (l : ℕ) → Narrowed cs s rows tied → Among l tied → IsExiting cs s rows l
all_looked cs s rows tied l n a = record {
  bounding = n.bounding l a;
  least = λ t p stand. least_row t s cs tied l (n.tied_in t p stand) a;
  looked = λ t p stand i c k. (n.tied_in t p stand).looked k.before c k.after k.is_next i k.tied;
}

split_any : (cs rest before after : List ℕ) (c : ℕ) → cs ++ rest ≡ before ++ c ∷ after → ((mid : List ℕ) × (cs ≡ before ++ c ∷ mid)) ⊎ ((more : List ℕ) × (before ≡ cs ++ more))
split_any [] rest before after c e = inr (before, refl)
split_any (d ∷ cs) rest [] after c e = let h : d ≡ c = cc in inl (cs, ap (λ (z : ℕ). z ∷ cs) h)
split_any (d ∷ cs) rest (b ∷ bs) after c e =
    let h : d ≡ b = cc in
    let t : cs ++ rest ≡ bs ++ c ∷ after = cc in
    elim (split_any cs rest bs after c t) [
      | inl m ↦ inl (m.0, cons_same d b cs (bs ++ c ∷ m.0) h m.1)
      | inr m ↦ inr (m.0, cons_same b d bs (cs ++ m.0) (sym h) m.1)
    ]
  where
    cons_same : (x y : ℕ) (xs ys : List ℕ) → x ≡ y → xs ≡ ys → x ∷ xs ≡ y ∷ ys
    cons_same x y xs ys e f = rw (e, f) refl

-- what is least in more columns is least in fewer
least_front : (t : Tableau) (s : ℕ) (cs more : List ℕ) (i : ℕ) → IsLeastRow (cs ++ more) s t i → IsLeastRow cs s t i
least_front t s cs more i l = record {
  inside = l.inside;
  positive = l.positive;
  least = λ m h p.
      let A : List ℤ → List ℤ → Type 0 = LexAtMost in
      let w : LexAtMost (crossed t s (cs ++ more) i m) (crossed t s (cs ++ more) m i) = l.least m h p in
      most_front (crossed t s cs i m) (crossed t s cs m i) (crossed t s more i m) (crossed t s more m i) (length-scaled (places.at (row_at t.rows m) s) (row_at t.rows i) cs ∙ sym (length-scaled (places.at (row_at t.rows i) s) (row_at t.rows m) cs))
      (subst (λ (xs : List ℤ). A xs (crossed t s cs m i ++ crossed t s more m i)) (crossed-append t s cs more i m) (subst (A (crossed t s (cs ++ more) i m)) (crossed-append t s cs more m i) w));
}

only_one : (tied : List ℕ) (i l : ℕ) → length tied ≤ 1 → Among i tied → Among l tied → i ≡ l
only_one [] i l h a b = absurd a
only_one (x ∷ []) i l h (inl e) (inl f) = e ∙ sym f
only_one (x ∷ []) i l h (inl e) (inr b) = absurd b
only_one (x ∷ []) i l h (inr a) b = absurd a
only_one (x ∷ y ∷ xs) i l h a b = absurd (omega arith)

module _ (c : ℕ) (front rest : List ℕ) (s : ℕ) (rows : List Entries) (tied : List ℕ) (l : ℕ) (n : Narrowed (c ∷ front) s rows tied) (a : Among l tied) (one : length tied ≤ 1) (t : Tableau) (p : pos 0 <ℤ t.over) (stand : RowsStand t rows) where
  one_least : (m : ℕ) → m < length t.rows → pos 0 <ℤ places.at (row_at t.rows m) s → LexAtMost (crossed t s ((c ∷ front) ++ rest) l m) (crossed t s ((c ∷ front) ++ rest) m l)
  one_least m h q = elim (same_or_not m l) [
    | inl e ↦ subst (λ (z : ℕ). LexAtMost (crossed t s ((c ∷ front) ++ rest) l z) (crossed t s ((c ∷ front) ++ rest) z l)) (sym e) (same_at_most (crossed t s ((c ∷ front) ++ rest) l l) (crossed t s ((c ∷ front) ++ rest) l l) refl)
    | inr d ↦
        let A : List ℤ → List ℤ → Type 0 = LexAtMost in
        let less : LexLess (crossed t s (c ∷ front) l m) (crossed t s (c ∷ front) m l) = (n.tied_in t p stand).less l m a (record { inside = h; positive = q }) (λ b. d (only_one tied m l one b a)) in
        subst (λ (xs : List ℤ). A xs (crossed t s ((c ∷ front) ++ rest) m l)) (sym (crossed-append t s (c ∷ front) rest l m))
        (subst (A (crossed t s (c ∷ front) l m ++ crossed t s rest l m)) (sym (crossed-append t s (c ∷ front) rest m l))
        (less_at_most (crossed t s (c ∷ front) l m ++ crossed t s rest l m) (crossed t s (c ∷ front) m l ++ crossed t s rest m l) (less_more (crossed t s (c ∷ front) l m) (crossed t s (c ∷ front) m l) (crossed t s rest l m) (crossed t s rest m l) less)))
  ]

  one_looked : (i k : ℕ) → IsCompared ((c ∷ front) ++ rest) t s i k → NoFraction (places.at (row_at t.rows i) k) (places.at (row_at t.rows i) s) → ⊥
  one_looked i k w = elim (split_any (c ∷ front) rest w.before w.after k w.is_next) [
    | inl m ↦ (n.tied_in t p stand).looked w.before k m.0 m.1 i w.tied
    | inr m ↦ absurd (not_alone m.0 m.1 w.another)
  ]
    where
      tied_at : (more : List ℕ) (j : ℕ) → w.before ≡ (c ∷ front) ++ more → IsLeastRow w.before s t j → Among j tied
      tied_at more j e r = is_tied t s (c ∷ front) tied j (n.tied_in t p stand) (least_front t s (c ∷ front) more j (subst (λ (z : List ℕ). IsLeastRow z s t j) e r))

      not_alone : (more : List ℕ) → w.before ≡ (c ∷ front) ++ more → (w.before ≡ []) ⊎ ((m : ℕ) × (m ≢ i) × IsLeastRow w.before s t m) → ⊥
      not_alone more e (inl f) = absurd (let g : [] ≡ c ∷ (front ++ more) = sym f ∙ e in (cc))
      not_alone more e (inr (m, d, r)) = d (only_one tied m i one (tied_at more m e r) (tied_at more i e w.tied))

pub one_left : (c : ℕ) (front rest : List ℕ) (s : ℕ) (rows : List Entries) (tied : List ℕ) (l : ℕ) → Narrowed (c ∷ front) s rows tied → Among l tied → length tied ≤ 1 → IsExiting ((c ∷ front) ++ rest) s rows l
one_left c front rest s rows tied l n a one = record {
  bounding = n.bounding l a;
  least = λ t p stand. record {
    inside = ((n.tied_in t p stand).only l a).inside;
    positive = ((n.tied_in t p stand).only l a).positive;
    least = one_least c front rest s rows tied l n a one t p stand;
  };
  looked = λ t p stand. one_looked c front rest s rows tied l n a one t p stand;
}

-- the first of them, where one is left or all columns were looked at
pub first_among : (tied : List ℕ) (d : ℕ) → 0 < length tied → Among (get_or tied 0 d) tied
first_among [] d h = absurd (omega arith)
first_among (x ∷ xs) d h = inl refl

pub some_there : (tied : List ℕ) (j : ℕ) → Among j tied → 0 < length tied
some_there [] j a = absurd a
some_there (x ∷ xs) j a = omega arith

pub search_ends : (right slack column s : ℕ) (rows : List Entries) (tied : List ℕ) (l : ℕ) → slack ≤ column → column ≤ right → Narrowed (columns_to right slack column) s rows tied → l ≡ get_or tied 0 l → (1 < length tied → column < right → ⊥)
    → IsExiting (columns_to right slack right) s rows l
search_ends right slack column s rows tied l h k n e done =
    let a : Among l tied = subst (λ (z : ℕ). Among z tied) (sym e) (first_among tied l (some_there tied n.some.0 n.some.1)) in
    elim (one_or_more (length tied)) [
      | inl one ↦ subst (λ (cs : List ℕ). IsExiting cs s rows l) (sym (columns_rest right slack column h k)) (one_left right (counted slack (column - slack)) (counted column (right - column)) s rows tied l n a one)
      | inr more ↦ elim (there_or_not column right k) [
        | inl same ↦ all_looked (columns_to right slack right) s rows tied l (subst (λ (z : ℕ). Narrowed (columns_to right slack z) s rows tied) same n) a
        | inr below ↦ absurd (done more below)
      ]
    ]
  where
    one_or_more : (m : ℕ) → (m ≤ 1) ⊎ (1 < m)
    one_or_more m = grind arith

    there_or_not : (m n : ℕ) → m ≤ n → (m ≡ n) ⊎ (m < n)
    there_or_not m n h = grind arith
