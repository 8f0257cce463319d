-- Solutions, dual solutions and vectors that refute, as they are read from a table.
use Rattle.std.proofs.Common.{◌≡◌, ◌≢◌, refl, sym, ap, subst, ◌∙◌, ℕ, zero, suc, ◌+◌, ◌-◌, ◌^◌, ◌<◌, ℤ, pos, neg_ℤ, ◌+ℤ◌, ◌*ℤ◌, ◌<ℤ◌, arith, List, [], ◌∷◌, ◌++◌, length, map, ◌⊎◌, inl, inr}
use Rattle.std.proofs.lemmas.List.{length-map}
use Rattle.std.proofs.lemmas.Int.{ints}
use Rattle.raml_num.proofs.Differences.{diffs, diff-pos, is_diff, diff_same}
use Rattle.frac128.specs.declared.Frac.{Frac}
use Rattle.frac128.specs.Values.{numerator, denominator}
use Rattle.frac128.specs.Nought.{nought}
use Rattle.simplex_rows.specs.Entries.{Entries, at}
use Rattle.linear_rows.specs.Systems.{LinearSystem, IsSystem}
use Rattle.linear_rows.specs.Vectors.{plus}
use Rattle.simplex_spec.specs.Places.{row_at, at_each, column, counted, only, spread}
use Rattle.simplex_spec.specs.Places as places
use Rattle.simplex_spec.specs.Tableaux.{Tableau, right, opening, solution, dual, ray}
use Rattle.simplex_spec.proofs.Rows.{at-zeros, length-column}
use Rattle.simplex_spec.proofs.Opening.{length-only, only_here, only_there, length-counted}
use Rattle.simplex_spec.proofs.Reading.{length-spread}
use Rattle.linear_rows.proofs.Duality.{least}
use Rattle.linear_rows.proofs.Proportions.{agree as proportional}
use Rattle.simplex.proofs.Wholes.{in_proportion}
use Rattle.simplex.proofs.Lifting.{stands_with}
use Rattle.simplex_spec.proofs.Ending.{Good, good_course}
use Rattle.simplex_spec.proofs.Agreeing.{ends_least, rise_refutes}
use Rattle.simplex_spec.specs.Courses.{Rule, Course, Follows}
use Rattle.simplex.specs.Standing.{Stands, RowStands, RowsStand, entries_at}
use Rattle.simplex.specs.Reading.{AreOver, HaveParts, NoneTwice, IsSpreadTo, frac_at, column_at}
use Rattle.simplex.specs.declared.table.Table.{Table}
use Rattle.simplex.specs.Solving.{IsAfter, IsAt, IsOpening, Reached, ReachedEnd, ReachedRise, IsBest, IsRefuted}
use Rattle.simplex.proofs.Solves.{opening_after, fewer}
use Rattle.simplex_spec.proofs.Pivoting.{same_or_not}

-- the numbers of a spread list
at-plus : (xs ys : List ℤ) (c : ℕ) → length xs ≡ length ys → places.at (plus xs ys) c ≡ places.at xs c +ℤ places.at ys c
at-plus [] [] c e = refl
at-plus [] (y ∷ ys) c e = absurd (omega arith)
at-plus (x ∷ xs) [] c e = absurd (omega arith)
at-plus (x ∷ xs) (y ∷ ys) zero e = refl
at-plus (x ∷ xs) (y ∷ ys) (suc c) e = at-plus xs ys c (omega arith)

add_zero : (a b : ℤ) → a ≡ pos 0 → a +ℤ b ≡ b
add_zero a b e = omega (arith, ints)

zero_add : (a b : ℤ) → b ≡ pos 0 → a +ℤ b ≡ a
zero_add a b e = omega (arith, ints)

at-spread : (n c : ℕ) (cs : List ℕ) (z : ℤ) (zs : List ℤ) (k : ℕ) → places.at (spread n (c ∷ cs) (z ∷ zs)) k ≡ places.at (only n c z) k +ℤ places.at (spread n cs zs) k
at-spread n c cs z zs k = at-plus (only n c z) (spread n cs zs) k (length-only n c z ∙ sym (length-spread n cs zs))

spread_absent : (n : ℕ) (cs : List ℕ) (zs : List ℤ) (k : ℕ) → ((i : ℕ) → i < length cs → column_at cs i ≡ k → ⊥) → places.at (spread n cs zs) k ≡ pos 0
spread_absent n [] zs k f = at-zeros n k
spread_absent n (c ∷ cs) [] k f = at-zeros n k
spread_absent n (c ∷ cs) (z ∷ zs) k f = at-spread n c cs z zs k
    ∙ add_zero _ _ (only_there n c k z (λ e. f 0 (omega arith) e))
    ∙ spread_absent n cs zs k (λ i h e. f (suc i) (omega arith) e)

spread_present : (n : ℕ) (cs : List ℕ) (zs : List ℤ) (i : ℕ) → ((i j : ℕ) → i < length cs → j < length cs → column_at cs i ≡ column_at cs j → i ≡ j) → length zs ≡ length cs → i < length cs → column_at cs i < n
    → places.at (spread n cs zs) (column_at cs i) ≡ places.at zs i
spread_present n [] zs i f e h b = absurd (omega arith)
spread_present n (c ∷ cs) [] i f e h b = absurd (omega arith)
spread_present n (c ∷ cs) (z ∷ zs) zero f e h b = at-spread n c cs z zs c
    ∙ zero_add _ _ (spread_absent n cs zs c (λ i q r. let s = f (suc i) 0 (omega arith) (omega arith) r in omega arith))
    ∙ only_here n c z b
spread_present n (c ∷ cs) (z ∷ zs) (suc i) f e h b = at-spread n c cs z zs (column_at cs i)
    ∙ add_zero _ _ (only_there n c (column_at cs i) z (λ r. let s = f 0 (suc i) (omega arith) h r in omega arith))
    ∙ spread_present n cs zs i (λ j k p q r. let s = f (suc j) (suc k) (omega arith) (omega arith) r in omega arith) (omega arith) (omega arith) b

-- whether a column is among these
seek : (cs : List ℕ) (c : ℕ) → ((i : ℕ) × (i < length cs) × (column_at cs i ≡ c)) ⊎ ((i : ℕ) → i < length cs → column_at cs i ≡ c → ⊥)
seek [] c = inr (λ i h e. omega arith)
seek (b ∷ cs) c = elim (same_or_not b c) [
  | inl e ↦ inl (0, omega arith, e)
  | inr n ↦ elim (seek cs c) [
    | inl f ↦ inl (suc f.0, (let h = f.1 in omega arith), f.2)
    | inr g ↦ inr (λ i. nowhere b c cs n g i)
  ]
]
  where
    nowhere : (b c : ℕ) (cs : List ℕ) → b ≢ c → ((i : ℕ) → i < length cs → column_at cs i ≡ c → ⊥) → (i : ℕ) → i < length (b ∷ cs) → column_at (b ∷ cs) i ≡ c → ⊥
    nowhere b c cs n g zero h e = n e
    nowhere b c cs n g (suc i) h e = g i (omega arith) e

-- fractions that are spread as whole numbers are
pub spread_over : (d : ℤ) (n : ℕ) (cs : List ℕ) (zs : List ℤ) (xs ys : List Frac) → NoneTwice cs → length zs ≡ length cs → AreOver d zs xs → IsSpreadTo (length cs) n cs xs ys → AreOver d (spread n cs zs) ys
spread_over d n cs zs xs ys once e over h = record {
  count = h.count ∙ sym (length-spread n cs zs);
  each = λ c q. let q' : c < n = (let l = length-spread n cs zs in omega arith) in elim (seek cs c) [
    | inl f ↦
        let below : column_at cs f.0 < n = (let r = f.2 in omega arith) in
        let place : f.0 < length zs = (let r = f.1 in omega arith) in
        let there : Stands d (places.at (spread n cs zs) (column_at cs f.0)) (frac_at ys (column_at cs f.0)) =
        subst (Stands d (places.at (spread n cs zs) (column_at cs f.0))) (sym (h.here f.0 f.1 below)) (subst (λ (z : ℤ). Stands d z (frac_at xs f.0)) (sym (spread_present n cs zs f.0 once.once e f.1 below)) (over.each f.0 place)) in
        subst (λ (k : ℕ). Stands d (places.at (spread n cs zs) k) (frac_at ys k)) f.2 there
    | inr g ↦ subst (λ (z : ℤ). Stands d z (frac_at ys c)) (sym (spread_absent n cs zs c g)) (stands_with d (pos 0) nought (frac_at ys c) (h.elsewhere c q' g) (h.whole c q' g) (record { is = omega (arith, ints) }))
  ];
}

-- the other sign
neg_stands : (d n : ℤ) (x y : Frac) → numerator y ≡ neg_ℤ (numerator x) → denominator y ≡ denominator x → Stands d n x → Stands d (neg_ℤ n) y
neg_stands d n x y e f s = let is : y.num *ℤ d ≡ neg_ℤ n *ℤ pos y.den = rw (e, f) (neg_left x.num d ∙ ap neg_ℤ s.is ∙ sym (neg_left n (pos x.den))) in record { is = is }
  where
    neg_left : (a b : ℤ) → neg_ℤ a *ℤ b ≡ neg_ℤ (a *ℤ b)
    neg_left a b = rw (is_diff a, is_diff b) (simp (diffs, diff-pos) (diff_same _ _ _ _ (omega arith)))

at-neg : (ns : List ℤ) (i : ℕ) → places.at (map neg_ℤ ns) i ≡ neg_ℤ (places.at ns i)
at-neg [] i = refl
at-neg (n ∷ ns) zero = refl
at-neg (n ∷ ns) (suc i) = at-neg ns i

pub neg_over : (d : ℤ) (ns : List ℤ) (xs ys : List Frac) → AreOver d ns xs → HaveParts (length xs) (λ i. neg_ℤ (numerator (frac_at xs i))) (λ i. denominator (frac_at xs i)) ys → AreOver d (map neg_ℤ ns) ys
neg_over d ns xs ys o h = record {
  count = h.count ∙ o.count ∙ sym (length-map ns neg_ℤ);
  each = λ i q. let q' : i < length ns = (let l = length-map ns neg_ℤ in omega arith) in let q'' : i < length xs = (let l = o.count in omega arith) in
      subst (λ (z : ℤ). Stands d z (frac_at ys i)) (sym (at-neg ns i)) (neg_stands d (places.at ns i) (frac_at xs i) (frac_at ys i) (h.nums i q'') (h.dens i q'') (o.each i q'));
}

-- the numbers at columns that are counted, and in a column
at-counted : (row : List ℤ) (k n i : ℕ) → i < n → places.at (at_each row (counted k n)) i ≡ places.at row (k + i)
at-counted row k zero i h = absurd (omega arith)
at-counted row k (suc n) zero h = ap (places.at row) (let e : k ≡ k + 0 = omega arith in e)
at-counted row k (suc n) (suc i) h = at-counted row (suc k) n i (omega arith) ∙ ap (places.at row) (let e : suc k + i ≡ k + suc i = omega arith in e)

length-at_each : (row : List ℤ) (cs : List ℕ) → length (at_each row cs) ≡ length cs
length-at_each row [] = refl
length-at_each row (c ∷ cs) = ap suc (length-at_each row cs)

at-column : (c : ℕ) (rows : List (List ℤ)) (i : ℕ) → i < length rows → places.at (column c rows) i ≡ places.at (row_at rows i) c
at-column c [] i h = absurd (omega arith)
at-column c (r ∷ rows) zero h = refl
at-column c (r ∷ rows) (suc i) h = at-column c rows i (omega arith)

pub counted_over : (d : ℤ) (ns : List ℤ) (es : Entries) (k n : ℕ) (xs : List Frac) → RowStands d ns es → HaveParts n (λ i. neg_ℤ (numerator (at (k + i) es))) (λ i. denominator (at (k + i) es)) xs → AreOver d (map neg_ℤ (at_each ns (counted k n))) xs
counted_over d ns es k n xs r h =
    let l : length (map neg_ℤ (at_each ns (counted k n))) ≡ n = length-map (at_each ns (counted k n)) neg_ℤ ∙ length-at_each ns (counted k n) ∙ length-counted k n in
    record {
      count = h.count ∙ sym l;
      each = λ i q. let q' : i < n = omega arith in
          subst (λ (z : ℤ). Stands d z (frac_at xs i)) (sym (at-neg (at_each ns (counted k n)) i ∙ ap neg_ℤ (at-counted ns k n i q'))) (neg_stands d (places.at ns (k + i)) (at (k + i) es) (frac_at xs i) (h.nums i q') (h.dens i q') (r.each (k + i)));
    }

pub column_over : (t : Tableau) (rows : List Entries) (c : ℕ) (xs : List Frac) → RowsStand t rows → HaveParts (length rows) (λ i. numerator (at c (entries_at rows i))) (λ i. denominator (at c (entries_at rows i))) xs → AreOver t.over (column c t.rows) xs
column_over t rows c xs r h =
    let l : length (column c t.rows) ≡ length t.rows = length-column c t.rows in
    record {
      count = h.count ∙ r.count ∙ sym l;
      each = λ i q. let q' : i < length t.rows = omega arith in let q'' : i < length rows = (let n = r.count in omega arith) in
          subst (λ (z : ℤ). Stands t.over z (frac_at xs i)) (sym (at-column c t.rows i q')) (stands_with t.over (places.at (row_at t.rows i) c) (at c (entries_at rows i)) (frac_at xs i) (h.nums i q'') (h.dens i q'') ((r.each i q').each c));
    }

-- one column more
pub counted_more : (k n : ℕ) → counted k (n + 1) ≡ counted k n ++ (k + n) ∷ []
counted_more k n = ap (counted k) (let e : n + 1 ≡ suc n = omega arith in e) ∙ on k n
  where
    on : (k n : ℕ) → counted k (suc n) ≡ counted k n ++ (k + n) ∷ []
    on k zero = ap (λ (z : ℕ). z ∷ []) (let e : k ≡ k + 0 = omega arith in e)
    on k (suc n) = ap (λ (zs : List ℕ). k ∷ zs) (on (suc k) n ∙ ap (λ (z : ℕ). counted (suc k) n ++ z ∷ []) (let e : suc k + n ≡ k + suc n = omega arith in e))

-- basis columns differ
same_or_other : (a b : ℕ) → (a ≡ b) ⊎ (a ≢ b)
same_or_other a b = grind arith

module _ (s : LinearSystem) (system : IsSystem s) (pivots : List (ℕ × ℕ)) (basis : List ℕ) (rows : List Entries) (gains : Entries) (t : Tableau) (after : IsAfter s pivots basis rows gains t) where
  good : Good s t
  good = good_course s pivots t system after.course

  long : length basis ≡ length t.rows
  long = ap length (sym after.basis_is) ∙ sym good.sound.one_each

  pub none_twice : NoneTwice basis
  none_twice = record {
    once = λ i j h k e. elim (same_or_other i j) [
      | inl q ↦ q
      | inr n ↦ absurd (
          let own : places.at (row_at t.rows i) (column_at basis i) ≡ t.over = ap (λ (bs : List ℕ). places.at (row_at t.rows i) (column_at bs i)) (sym after.basis_is) ∙ good.based.own i (let l = long in omega arith) in
          let other : places.at (row_at t.rows i) (column_at basis j) ≡ pos 0 = ap (λ (bs : List ℕ). places.at (row_at t.rows i) (column_at bs j)) (sym after.basis_is) ∙ good.based.other i j (let l = long in omega arith) (let l = long in omega arith) n in
          let zero : t.over ≡ pos 0 = sym own ∙ ap (places.at (row_at t.rows i)) e ∙ other in
          let p = good.sound.positive in
          omega (arith, ints))
    ];
  }

  not_in_basis : (c : ℕ) → pos 0 <ℤ places.at t.gains c → (i : ℕ) → i < length basis → column_at basis i ≡ c → ⊥
  not_in_basis c p i h e =
      let still : places.at t.gains (column_at basis i) ≡ pos 0 = ap (λ (bs : List ℕ). places.at t.gains (column_at bs i)) (sym after.basis_is) ∙ good.based.still i (let l = long in omega arith) in
      let zero : places.at t.gains c ≡ pos 0 = ap (places.at t.gains) (sym e) ∙ still in
      omega (arith, ints)

  pub still_once : (c : ℕ) → pos 0 <ℤ places.at t.gains c → NoneTwice (c ∷ basis)
  still_once c p = record { once = λ i j h k e. apart c basis none_twice (not_in_basis c p) i j h k e }
    where
      apart : (c : ℕ) (cs : List ℕ) → NoneTwice cs → ((i : ℕ) → i < length cs → column_at cs i ≡ c → ⊥) → (i j : ℕ) → i < length (c ∷ cs) → j < length (c ∷ cs) → column_at (c ∷ cs) i ≡ column_at (c ∷ cs) j → i ≡ j
      apart c cs o f zero zero h k e = refl
      apart c cs o f zero (suc j) h k e = absurd (f j (omega arith) (sym e))
      apart c cs o f (suc i) zero h k e = absurd (f i (omega arith) e)
      apart c cs o f (suc i) (suc j) h k e = ap suc (o.once i j (omega arith) (omega arith) e)

  pub reads_solution : (xs : List Frac) → HaveParts s.unknowns (λ i. neg_ℤ (numerator (at (length s.rows + i) gains))) (λ i. denominator (at (length s.rows + i) gains)) xs → AreOver t.over (solution s t) xs
  reads_solution xs h = counted_over t.over t.gains gains (length s.rows) s.unknowns xs after.stand.gains_stand h

  pub reads_dual : (xs ys : List Frac) → HaveParts (length rows) (λ i. numerator (at (right s) (entries_at rows i))) (λ i. denominator (at (right s) (entries_at rows i))) xs
      → IsSpreadTo (length basis) (length s.rows) basis xs ys → AreOver t.over (dual s t) ys
  reads_dual xs ys h k = subst (λ (bs : List ℕ). AreOver t.over (spread (length s.rows) bs (column (right s) t.rows)) ys) (sym after.basis_is)
      (spread_over t.over (length s.rows) basis (column (right s) t.rows) xs ys none_twice (length-column (right s) t.rows ∙ sym long) (column_over t rows (right s) xs after.stand.rows_stand h) k)

  pub reads_ray : (c : ℕ) (xs ns : List Frac) (one : Frac) (ys : List Frac) → pos 0 <ℤ places.at t.gains c → HaveParts (length rows) (λ i. numerator (at c (entries_at rows i))) (λ i. denominator (at c (entries_at rows i))) xs
      → HaveParts (length xs) (λ i. neg_ℤ (numerator (frac_at xs i))) (λ i. denominator (frac_at xs i)) ns → numerator one ≡ pos 1 → denominator one ≡ 1
      → IsSpreadTo (length (c ∷ basis)) (length s.rows) (c ∷ basis) (one ∷ ns) ys → AreOver t.over (ray s c t) ys
  reads_ray c xs ns one ys p h k e f w = subst (λ (bs : List ℕ). AreOver t.over (spread (length s.rows) (c ∷ bs) (t.over ∷ map neg_ℤ (column c t.rows))) ys) (sym after.basis_is)
      (spread_over t.over (length s.rows) (c ∷ basis) (t.over ∷ map neg_ℤ (column c t.rows)) (one ∷ ns) ys (still_once c p) (ap suc (length-map (column c t.rows) neg_ℤ ∙ length-column c t.rows ∙ sym long))
      (first_over t.over (map neg_ℤ (column c t.rows)) one ns e f (neg_over t.over (column c t.rows) xs ns (column_over t rows c xs after.stand.rows_stand h) k)) w)
    where
      whole_stands : (d : ℤ) (x : Frac) → numerator x ≡ pos 1 → denominator x ≡ 1 → Stands d d x
      whole_stands d x e f = let is : x.num *ℤ d ≡ d *ℤ pos x.den = rw (e, f) (omega (arith, ints)) in record { is = is }

      number_over : (d : ℤ) (zs : List ℤ) (x : Frac) (xs : List Frac) → numerator x ≡ pos 1 → denominator x ≡ 1 → AreOver d zs xs → (i : ℕ) → i < length (d ∷ zs) → Stands d (places.at (d ∷ zs) i) (frac_at (x ∷ xs) i)
      number_over d zs x xs e f o zero q = whole_stands d x e f
      number_over d zs x xs e f o (suc i) q = o.each i (omega arith)

      first_over : (d : ℤ) (zs : List ℤ) (x : Frac) (xs : List Frac) → numerator x ≡ pos 1 → denominator x ≡ 1 → AreOver d zs xs → AreOver d (d ∷ zs) (x ∷ xs)
      first_over d zs x xs e f o = record { count = ap suc o.count; each = number_over d zs x xs e f o }

  -- the same, under the names of the code
  negated_as : (zs xs ys : List Frac) → zs ≡ xs → HaveParts (length zs) (λ i. neg_ℤ (numerator (frac_at zs i))) (λ i. denominator (frac_at zs i)) ys → HaveParts (length xs) (λ i. neg_ℤ (numerator (frac_at xs i))) (λ i. denominator (frac_at xs i)) ys
  negated_as zs xs ys e h = subst (λ (w : List Frac). HaveParts (length w) (λ i. neg_ℤ (numerator (frac_at w i))) (λ i. denominator (frac_at w i)) ys) e h

  column_as : (es : List Entries) (c k : ℕ) (xs : List Frac) → es ≡ rows → c ≡ k → HaveParts (length es) (λ i. numerator (at c (entries_at es i))) (λ i. denominator (at c (entries_at es i))) xs → HaveParts (length rows) (λ i. numerator (at k (entries_at rows i))) (λ i. denominator (at k (entries_at rows i))) xs
  column_as es c k xs e f h = subst (λ (z : ℕ). HaveParts (length rows) (λ i. numerator (at z (entries_at rows i))) (λ i. denominator (at z (entries_at rows i))) xs) f
      (subst (λ (w : List Entries). HaveParts (length w) (λ i. numerator (at c (entries_at w i))) (λ i. denominator (at c (entries_at w i))) xs) e h)

  spread_as : (bs cs : List ℕ) (n m : ℕ) (zs xs ys : List Frac) → bs ≡ cs → n ≡ m → zs ≡ xs → IsSpreadTo (length bs) n bs zs ys → IsSpreadTo (length cs) m cs xs ys
  spread_as bs cs n m zs xs ys e f g h = subst (λ (b : List ℕ). IsSpreadTo (length b) m b xs ys) e (subst (λ (k : ℕ). IsSpreadTo (length bs) k bs xs ys) f (subst (λ (w : List Frac). IsSpreadTo (length bs) n bs w ys) g h))

  pub dual_read : (es : List Entries) (r n : ℕ) (bs : List ℕ) (xs zs ys : List Frac) → es ≡ rows → r ≡ right s → bs ≡ basis → n ≡ length s.rows → zs ≡ xs
      → HaveParts (length es) (λ i. numerator (at r (entries_at es i))) (λ i. denominator (at r (entries_at es i))) xs → IsSpreadTo (length bs) n bs zs ys → AreOver t.over (dual s t) ys
  dual_read es r n bs xs zs ys e f g m q h k = reads_dual xs ys (column_as es r (right s) xs e f h) (spread_as bs basis n (length s.rows) zs xs ys g m q k)

  pub ray_read : (c : ℕ) (es : List Entries) (n : ℕ) (bs : List ℕ) (xs ws ns zs ys : List Frac) (one : Frac) → pos 0 <ℤ places.at t.gains c → es ≡ rows → ws ≡ xs → numerator one ≡ pos 1 → denominator one ≡ 1 → bs ≡ c ∷ basis → n ≡ length s.rows → zs ≡ one ∷ ns
      → HaveParts (length es) (λ i. numerator (at c (entries_at es i))) (λ i. denominator (at c (entries_at es i))) xs → HaveParts (length ws) (λ i. neg_ℤ (numerator (frac_at ws i))) (λ i. denominator (frac_at ws i)) ns
      → IsSpreadTo (length bs) n bs zs ys → AreOver t.over (ray s c t) ys
  ray_read c es n bs xs ws ns zs ys one p e g a b f m q h k w = reads_ray c xs ns one ys p (column_as es c c xs e refl h) (negated_as ws xs ns g k) a b (spread_as bs (c ∷ basis) n (length s.rows) zs (one ∷ ns) ys f m q w)

-- what the loop's ends are
pub opened_reached : (rule : Rule) (s : LinearSystem) (table : Table) → IsOpening s table → Reached rule s table
opened_reached rule s table o =
    let a = opening_after s table.rows.items table.gains o.rows o.gains in
    record {
      t = opening s;
      after = record { course = subst (λ (ps : List (ℕ × ℕ)). Course s ps (opening s)) (sym o.none) a.course; stand = a.stand; basis_is = sym o.basis; height = a.height };
      follows = subst (Follows rule s) (sym o.none) tt;
    }

pub fewer_pivots : (rule : Rule) (s : LinearSystem) (table : Table) → IsSystem s → Reached rule s table → length table.pivots.items < 2 ^ right s
fewer_pivots rule s table system r = fewer s system table.pivots.items table.basis.items table.rows.items table.gains r.t r.after

pub shrinks : (n a b : ℕ) → b ≡ a + 1 → b < n → n - b < n - a
shrinks n a b e h = omega arith

pub differ_at : (rule : Rule) (s : LinearSystem) (table : Table) → IsSystem s → Reached rule s table → NoneTwice table.basis.items
differ_at rule s table system r = none_twice s system table.pivots.items table.basis.items table.rows.items table.gains r.t r.after

pub differ_rising : (rule : Rule) (s : LinearSystem) (table : Table) (c : ℕ) → IsSystem s → ReachedRise rule s table c → NoneTwice (c ∷ table.basis.items)
differ_rising rule s table c system r = still_once s system table.pivots.items table.basis.items table.rows.items table.gains r.reached.t r.reached.after c r.rises.enters.gain

pub best_of : (rule : Rule) (s : LinearSystem) (table : Table) (x y : List Frac) → IsSystem s → ReachedEnd rule s table → ((t : Tableau) → IsAt s table t → AreOver t.over (solution s t) x) → ((t : Tableau) → IsAt s table t → AreOver t.over (dual s t) y) → IsBest rule s table.pivots.items x y
best_of rule s table x y system r f g =
    let t = r.reached.t in
    let p = ends_least s table.pivots.items t system r.ends in
    let x_is = f t r.reached.after in
    let y_is = g t r.reached.after in
    record {
      t = t;
      ends = r.ends;
      follows = r.reached.follows;
      positive = p.positive;
      x_is = x_is;
      y_is = y_is;
      least = λ d xs pd e. proportional.least s (solution s t) xs t.over d p.positive pd (in_proportion t.over d (solution s t) xs x x_is e) (least s (solution s t) (dual s t) t.over p);
      proves = λ d xs ys pd e h. proportional.proves s (solution s t) (dual s t) xs ys t.over d pd (in_proportion t.over d (solution s t) xs x x_is e) (in_proportion t.over d (dual s t) ys y y_is h) p;
    }

pub refuted_of : (rule : Rule) (s : LinearSystem) (table : Table) (c : ℕ) (y : List Frac) → IsSystem s → ReachedRise rule s table c → ((t : Tableau) → IsAt s table t → pos 0 <ℤ places.at t.gains c → AreOver t.over (ray s c t) y) → IsRefuted rule s table.pivots.items y
refuted_of rule s table c y system r f =
    let t = r.reached.t in
    let g = good_course s table.pivots.items t system r.reached.after.course in
    let y_is = f t r.reached.after r.rises.enters.gain in
    record {
      t = t;
      column = c;
      rises = r.rises;
      follows = r.reached.follows;
      answers = r.answers;
      positive = g.sound.positive;
      y_is = y_is;
      refutes = λ d ys pd e. proportional.refutes s (ray s c t) ys t.over d g.sound.positive pd (in_proportion t.over d (ray s c t) ys y y_is e) (rise_refutes s table.pivots.items t c system r.rises);
    }
