-- Marks of blocks of rows by column.
use Rattle.std.proofs.Common.{◌≡◌, ◌≢◌, refl, sym, ap, subst, ◌∙◌, ℕ, zero, suc, ◌+◌, ◌-◌, ◌*◌, ◌<◌, ◌≤◌, ◌==◌, if◌then◌else◌, Bool, true, false, not, ℤ, pos, int_cmp, arith, List, [], ◌∷◌, ◌++◌, length, map, get_or, slice_set, take, min, replicate, ◌⊎◌, inl, inr, Result, Ok, Err, IfOk, Vec}
use Rattle.std.specs.Global.{Global}
use Rattle.std.specs.declared.alloc.AllocError.{AllocError}
use Rattle.std.proofs.lemmas.Bool.{eqb-true}
use mathlib.Core.Bool.{false≢true}
use Rattle.std.proofs.lemmas.Nat.{mul-le}
use Rattle.std.proofs.lemmas.List.{length-map, get_or-map, length-set, length-take, length-take-le, get_or-take, get_or-set_same, get_or-set_other, length-replicate, get_or-replicate}
use Rattle.std.proofs.lemmas.Int.{ints}
use Rattle.std.proofs.lemmas.Cmp.{int_ranked}
use Rattle.std.specs.Ordering.{ordering_index}
use Rattle.std.specs.declared.cmp.Ordering.{Ordering}
use Rattle.std.specs.declared.cmp.Ordering.TheVariants.{Less, Equal, Greater}
use Rattle.simplex_rows.specs.Entries.{Entries, at, columns_of}
use Rattle.simplex.specs.declared.covering.TheConstants.{BLOCK}
use Rattle.simplex.specs.Among.{Among}
use Rattle.simplex.specs.Standing.{entries_at, AreTouching}
use Rattle.simplex.specs.Covering.{block_of, blocks_of, HasMark, IsMarked, IsCovered, Cover, Grow, Clears, HasOne}
use Rattle.simplex.proofs.Rows.{row_is, among_take, among_taken, among_take_more, earlier_or_here, Picked, picked_more}
use Rattle.simplex_spec.proofs.Pivoting.{same_or_not}

-- Places

pub column_inside : (n h c : ℕ) → c < n → c * h + h ≤ n * h
column_inside n h c l = let m : (c + 1) * h ≤ n * h = mul-le (c + 1) h n h (omega arith) (omega arith) in omega (arith, m)

pub inside : (n h c b : ℕ) → c < n → b < h → c * h + b < n * h
inside n h c b l k = let m = column_inside n h c l in omega (arith, m, k)

pub block_inside : (n i : ℕ) → i < n → block_of i < blocks_of n
block_inside n i h = omega arith

before_or_after : (c d : ℕ) → c ≢ d → (c < d) ⊎ (d < c)
before_or_after zero zero n = absurd (n refl)
before_or_after zero (suc d) n = inl (omega arith)
before_or_after (suc c) zero n = inr (omega arith)
before_or_after (suc c) (suc d) n = elim (before_or_after c d (λ e. n (ap suc e))) [ inl k ↦ inl (omega (arith, k)) | inr k ↦ inr (omega (arith, k)) ]

-- a block's place in another column
pub apart : (h c d b : ℕ) → c ≢ d → b < h → (c * h + b < d * h) ⊎ (d * h + h ≤ c * h + b)
apart h c d b n l = elim (before_or_after c d n) [
  | inl k ↦ inl (inside d h c b k l)
  | inr k ↦ inr (let m = column_inside c h d k in omega (arith, m))
]

-- One mark more

still_marked : (xs : List Bool) (i j : ℕ) → get_or xs j false ≡ true → get_or (slice_set xs i true) j false ≡ true
still_marked [] i j e = e
still_marked (x ∷ xs) zero zero e = refl
still_marked (x ∷ xs) zero (suc j) e = e
still_marked (x ∷ xs) (suc i) zero e = e
still_marked (x ∷ xs) (suc i) (suc j) e = still_marked xs i j e

only_marked : (xs : List Bool) (i j : ℕ) → get_or (slice_set xs i true) j false ≡ true → (get_or xs j false ≡ true) ⊎ (j ≡ i)
only_marked [] i j e = inl e
only_marked (x ∷ xs) zero zero e = inr refl
only_marked (x ∷ xs) zero (suc j) e = inl e
only_marked (x ∷ xs) (suc i) zero e = inl e
only_marked (x ∷ xs) (suc i) (suc j) e = elim (only_marked xs i j e) [ inl f ↦ inl f | inr f ↦ inr (ap suc f) ]

-- where there is no place, nothing is set
pub set_past : (xs : List Bool) (i : ℕ) → length xs ≤ i → xs ≡ slice_set xs i true
set_past [] i h = refl
set_past (x ∷ xs) zero h = absurd (omega (arith, h))
set_past (x ∷ xs) (suc i) h = ap (λ (ys : List Bool). x ∷ ys) (set_past xs i (omega (arith, h)))

pub block_marked : (h c b : ℕ) (old : List Bool) → Grow h (c ∷ []) (b ∷ []) old (slice_set old (c * h + b) true)
block_marked h c b old = record {
  places = length-set old (c * h + b) true;
  kept = λ p m. still_marked old (c * h + b) p m;
  has = λ k j l m a. elim m [
    | inl q ↦ elim a [ inl r ↦ rw (q, r) (get_or-set_same old (c * h + b) true false (rw (q, r) at l)) | inr r ↦ absurd r ]
    | inr q ↦ absurd q
  ];
  only = λ p m. elim (only_marked old (c * h + b) p m) [
    | inl w ↦ inl w
    | inr e ↦ inr (record { column = c; block = b; is = e; in_columns = inl refl; in_blocks = inl refl })
  ];
}

-- no vector has such a place
pub no_place : (h c b : ℕ) (old : List Bool) → length old ≤ c * h + b → Grow h (c ∷ []) (b ∷ []) old old
no_place h c b old l = subst (Grow h (c ∷ []) (b ∷ []) old) (sym (set_past old (c * h + b) l)) (block_marked h c b old)

taken : (k : ℕ) (xs : List ℕ) (x : ℕ) → k < length xs → Among x (get_or xs k 0 ∷ []) → Among x (take (k + 1) xs)
taken k xs x l (inl e) = subst (λ (z : ℕ). Among z (take (k + 1) xs)) (sym e) (among_taken k xs l)
taken k xs x l (inr a) = absurd a

-- one column more
pub column_more : (h k : ℕ) (columns blocks : List ℕ) (old mid new : List Bool) → k < length columns → Grow h (take k columns) blocks old mid → Grow h (get_or columns k 0 ∷ []) blocks mid new → Grow h (take (k + 1) columns) blocks old new
column_more h k columns blocks old mid new l g m = record {
  places = m.places ∙ g.places;
  kept = λ p a. m.kept p (g.kept p a);
  has = λ c b q i a. elim (among_take_more k columns c l i) [
    | inl d ↦ m.kept (c * h + b) (g.has c b q d a)
    | inr e ↦ m.has c b (rw g.places q) (inl e) a
  ];
  only = λ p a. elim (m.only p a) [
    | inl o ↦ elim (g.only p o) [
      | inl d ↦ inl d
      | inr w ↦ inr (record { column = w.column; block = w.block; is = w.is; in_columns = among_take k columns w.column l w.in_columns; in_blocks = w.in_blocks })
    ]
    | inr w ↦ inr (record { column = w.column; block = w.block; is = w.is; in_columns = taken k columns w.column l w.in_columns; in_blocks = w.in_blocks })
  ];
}

-- one block more
pub block_more : (h k : ℕ) (columns blocks : List ℕ) (old mid new : List Bool) → k < length blocks → Grow h columns (take k blocks) old mid → Grow h columns (get_or blocks k 0 ∷ []) mid new → Grow h columns (take (k + 1) blocks) old new
block_more h k columns blocks old mid new l g m = record {
  places = m.places ∙ g.places;
  kept = λ p a. m.kept p (g.kept p a);
  has = λ c b q a i. elim (among_take_more k blocks b l i) [
    | inl d ↦ m.kept (c * h + b) (g.has c b q a d)
    | inr e ↦ m.has c b (rw g.places q) a (inl e)
  ];
  only = λ p a. elim (m.only p a) [
    | inl o ↦ elim (g.only p o) [
      | inl d ↦ inl d
      | inr w ↦ inr (record { column = w.column; block = w.block; is = w.is; in_columns = w.in_columns; in_blocks = among_take k blocks w.block l w.in_blocks })
    ]
    | inr w ↦ inr (record { column = w.column; block = w.block; is = w.is; in_columns = w.in_columns; in_blocks = taken k blocks w.block l w.in_blocks })
  ];
}

-- a block that has its marks
pub block_again : (h k : ℕ) (columns blocks : List ℕ) (old new : List Bool) → k < length blocks → Among (get_or blocks k 0) (take k blocks) → Grow h columns (take k blocks) old new → Grow h columns (take (k + 1) blocks) old new
block_again h k columns blocks old new l again g = record {
  places = g.places;
  kept = g.kept;
  has = λ c b q a i. g.has c b q a (elim (among_take_more k blocks b l i) [ inl d ↦ d | inr e ↦ subst (λ (z : ℕ). Among z (take k blocks)) (sym e) again ]);
  only = λ p a. elim (g.only p a) [
    | inl d ↦ inl d
    | inr w ↦ inr (record { column = w.column; block = w.block; is = w.is; in_columns = w.in_columns; in_blocks = among_take k blocks w.block l w.in_blocks })
  ];
}

-- a place before k
among_before : (xs : List ℕ) (j k : ℕ) → j < k → k ≤ length xs → Among (get_or xs j 0) (take k xs)
among_before [] j k l h = absurd (omega (arith, l, h))
among_before (x ∷ xs) j zero l h = absurd (omega (arith, l))
among_before (x ∷ xs) zero (suc k) l h = inl refl
among_before (x ∷ xs) (suc j) (suc k) l h = inr (among_before xs j k (omega (arith, l)) (omega (arith, h)))

-- the block of the row before
pub same_as_last : (rows : List ℕ) (k : ℕ) → 0 < k → k < length rows → block_of (get_or rows (k - 1) 0) ≡ block_of (get_or rows k 0) → Among (block_of (get_or rows k 0)) (take k (map block_of rows))
same_as_last rows k p h e = subst (λ (b : ℕ). Among b (take k (map block_of rows))) (get_or-map block_of rows (k - 1) 0 0 (omega (arith, h)) ∙ e)
    (among_before (map block_of rows) (k - 1) k (omega (arith, p)) (rw (length-map rows block_of) (omega (arith, h))))

-- Marks that are taken away

pub clears_none : (first : ℕ) (old : List Bool) → Clears first first old old
clears_none first old = record { places = refl; none = λ p a b m. absurd (omega (arith, a, b)); others = λ p w. refl }

pub clears_more : (first k : ℕ) (old mid : List Bool) → first ≤ k → k < length mid → Clears first k old mid → Clears first (k + 1) old (slice_set mid k false)
clears_more first k old mid o l h = record {
  places = length-set mid k false ∙ h.places;
  none = λ p a b m. elim (same_or_not p k) [
    | inl e ↦ false≢true (sym (get_or-set_same mid k false false l) ∙ subst (HasMark (slice_set mid k false)) e m)
    | inr n ↦ h.none p a (let d = before_or_after p k n in elim d [ inl q ↦ q | inr q ↦ absurd (omega (arith, q, b)) ]) (sym (get_or-set_other mid k p false false n) ∙ m)
  ];
  others = λ p w. get_or-set_other mid k p false false (λ e. elim w [ inl q ↦ absurd (omega (arith, q, e, o)) | inr q ↦ absurd (omega (arith, q, e)) ])
      ∙ h.others p (elim w [ inl q ↦ inl q | inr q ↦ inr (omega (arith, q)) ]);
}

-- the column is cleared, and has one mark then
pub one_kept : (h c b : ℕ) (old mid : List Bool) → c * h + h ≤ length old → b < h → Clears (c * h) (c * h + h) old mid → HasOne h c b old (slice_set mid (c * h + b) true)
one_kept h c b old mid l i k =
    let count = k.places in
    record {
      places = length-set mid (c * h + b) true ∙ k.places;
      here = get_or-set_same mid (c * h + b) true false (omega (arith, count, l, i));
      alone = λ j q m. elim (only_marked mid (c * h + b) (c * h + j) m) [
        | inl w ↦ absurd (k.none (c * h + j) (omega arith) (omega (arith, q)) w)
        | inr e ↦ omega (arith, e)
      ];
      others = λ p w. get_or-set_other mid (c * h + b) p true false (λ e. elim w [ inl q ↦ absurd (omega (arith, q, e)) | inr q ↦ absurd (omega (arith, q, e, i)) ]) ∙ k.others p w;
    }

-- a number that is not 0 has its column among the row's
pub listed : (c : ℕ) (es : Entries) → (at c es).num ≢ pos 0 → Among c (columns_of es)
listed c [] n = absurd (n refl)
listed c ((k, x) ∷ es) n = by (k == c) refl n (listed c es)
  where
    by : (b : Bool) → (k == c) ≡ b → (if b then x else at c es).num ≢ pos 0 → ((at c es).num ≢ pos 0 → Among c (columns_of es)) → Among c (k ∷ columns_of es)
    by true e m f = inl (sym (eqb-true k c e))
    by false e m f = inr (f m)

-- the marks of n columns: each of the first k rows with a number in one of them is in a block that is marked there
pub record CoverFirst (n k : ℕ) (rows : List Entries) (marks : List Bool) : Type 0 where
  pub places : length marks ≡ n * blocks_of (length rows)
  pub all : (c i : ℕ) → c < n → i < k → (at c (entries_at rows i)).num ≢ pos 0 → IsMarked (blocks_of (length rows)) marks c (block_of i)

pub none_first : (n : ℕ) (rows : List Entries) (marks : List Bool) → length marks ≡ n * blocks_of (length rows) → CoverFirst n 0 rows marks
none_first n rows marks e = record { places = e; all = λ c i l m z. absurd (omega (arith, m)) }

-- one row more is covered
pub covered_more : (n k : ℕ) (rows : List Entries) (d : Entries) (old new : List Bool) → k < length rows → d ≡ get_or rows k d → CoverFirst n k rows old → Grow (blocks_of (length rows)) (columns_of d) (block_of k ∷ []) old new → CoverFirst n (k + 1) rows new
covered_more n k rows d old new h e o g =
    let height = blocks_of (length rows) in
    record {
      places = g.places ∙ o.places;
      all = λ c i l m z. elim (earlier_or_here i k m) [
        | inl b ↦ g.kept (c * height + block_of i) (o.all c i l b z)
        | inr q ↦ g.has c (block_of i) (let low = inside n height c (block_of i) l (block_inside (length rows) i (omega (arith, q, h))) in let count = o.places in omega (arith, low, count))
            (listed c d (subst (λ (es : Entries). (at c es).num ≢ pos 0) (ap (entries_at rows) q ∙ sym (row_is rows k d h e)) z)) (inl (ap block_of q))
      ];
    }

-- a mark at each block in each column
marked_everywhere : (n : ℕ) (rows : List Entries) → Cover n rows (replicate (n * blocks_of (length rows)) true)
marked_everywhere n rows = record {
  places = length-replicate (n * blocks_of (length rows)) true;
  all = λ c l i h z. get_or-replicate (n * blocks_of (length rows)) _ true false (inside n (blocks_of (length rows)) c (block_of i) l (block_inside (length rows) i h));
}

pub marked_where_made : (n : ℕ) (rows : List Entries) (r : Result (Vec Bool Global) AllocError) → IfOk r (λ marks. marks.items ≡ replicate (n * blocks_of (length rows)) true) → IfOk r (λ marks. Cover n rows marks.items)
marked_where_made n rows (Ok marks) e = rw e (marked_everywhere n rows)
marked_where_made n rows (Err x) e = tt

-- The rows with a number, of those up to a place

module _ (s k : ℕ) (rows : List Entries) (inside : k ≤ length rows) where
  front_read : (i : ℕ) → i < k → entries_at (take k rows) i ≡ entries_at rows i
  front_read i h = get_or-take k rows i [] h

  pub picked : (is : List ℕ) → AreTouching s (take k rows) is → Picked (λ i. i < k) (λ i. (at s (entries_at rows i)).num ≢ pos 0) is
  picked is t =
      let count : length (take k rows) ≡ k = length-take-le k rows inside in
      record {
        of = λ i a. let l = t.inside i a in omega (arith, l, count);
        only = λ i a. rw (front_read i (let l = t.inside i a in omega (arith, l, count))) at (t.only i a);
        all = λ i l n. t.all i (omega (arith, l, count)) (rw (front_read i l) n);
        differ = t.differ;
      }

  pub picked_touching : (is : List ℕ) → Picked (λ i. i < k) (λ i. (at s (entries_at rows i)).num ≢ pos 0) is → AreTouching s (take k rows) is
  picked_touching is p =
      let count : length (take k rows) ≡ k = length-take-le k rows inside in
      record {
        inside = λ i a. let l = p.of i a in omega (arith, l, count);
        only = λ i a. rw (front_read i (p.of i a)) (p.only i a);
        all = λ i l n. let m : i < k = omega (arith, l, count) in p.all i m (rw (front_read i m) at n);
        differ = p.differ;
      }

-- one row more, which has a number
pub touching_more : (s k : ℕ) (rows : List Entries) (is new : List ℕ) → k < length rows → AreTouching s (take k rows) is → (at s (entries_at rows k)).num ≢ pos 0 → new ≡ is ++ k ∷ [] → AreTouching s (take (k + 1) rows) new
touching_more s k rows is new l t n e = picked_touching s (k + 1) rows (omega (arith, l)) new
    (picked_more (λ i. i < k) (λ i. i < k + 1) (λ i. (at s (entries_at rows i)).num ≢ pos 0) is k (picked s k rows (omega (arith, l)) is t) (λ i h. earlier_or_here i k h) (λ i h. omega (arith, h)) new (omega arith) (λ h. omega (arith, h)) n e)

-- more rows, which have none
pub touching_skips : (s k m : ℕ) (rows : List Entries) (is : List ℕ) → k ≤ m → k ≤ length rows → ((i : ℕ) → k ≤ i → i < m → i < length rows → (at s (entries_at rows i)).num ≢ pos 0 → ⊥) → AreTouching s (take k rows) is → AreTouching s (take m rows) is
touching_skips s k m rows is o h none t =
    let p = picked s k rows h is t in
    let count : length (take m rows) ≡ min m (length rows) = length-take m rows in
    record {
      inside = λ i a. let l = p.of i a in omega (arith, l, count, o, h);
      only = λ i a. rw (get_or-take m rows i [] (let l = p.of i a in omega (arith, l, o))) (p.only i a);
      all = λ i l n. let q : i < m = omega (arith, l, count) in
          let number = rw (get_or-take m rows i [] q) at n in
          elim (earlier_or_not i k) [ inl b ↦ p.all i b number | inr b ↦ absurd (none i b q (omega (arith, l, count)) number) ];
      differ = p.differ;
    }
  where
    earlier_or_not : (i k : ℕ) → (i < k) ⊎ (k ≤ i)
    earlier_or_not i k = grind arith

-- more rows, of a block without a mark
pub block_skipped : (s b : ℕ) (rows : List Entries) (marks : List Bool) (is : List ℕ) → b < blocks_of (length rows) → IsCovered s rows marks → get_or marks (s * blocks_of (length rows) + b) false ≡ false → AreTouching s (take (b * BLOCK) rows) is → AreTouching s (take ((b + 1) * BLOCK) rows) is
block_skipped s b rows marks is h cover none = touching_skips s (b * BLOCK) ((b + 1) * BLOCK) rows is (omega arith) (omega (arith, h)) (λ i low high l n.
    let same : block_of i ≡ b = omega (arith, low, high) in
    false≢true (sym none ∙ subst (λ (j : ℕ). IsMarked (blocks_of (length rows)) marks s j) same (cover i l n)))

-- the sign of a number, compared with that of 0
pub is_not_none : (z : ℤ) (o : Ordering) → o ≡ int_cmp z (pos 0) → not (ordering_index o == 1) ≡ true → z ≢ pos 0
is_not_none z Less e t = let l = int_ranked z (pos 0) Less e in λ q. omega (arith, ints, l, q)
is_not_none z Equal e t = absurd (false≢true t)
is_not_none z Greater e t = let l = int_ranked z (pos 0) Greater e in λ q. omega (arith, ints, l, q)

pub is_none : (z : ℤ) (o : Ordering) → o ≡ int_cmp z (pos 0) → not (ordering_index o == 1) ≡ false → z ≡ pos 0
is_none z Less e t = absurd (false≢true (sym t))
is_none z Equal e t = int_ranked z (pos 0) Equal e
is_none z Greater e t = absurd (false≢true (sym t))
