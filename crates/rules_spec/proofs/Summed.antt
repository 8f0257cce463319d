-- Entries over sums, as annotations with what is owed.
use Rattle.std.proofs.Common.{◌≡◌, refl, ap, sym, ◌∙◌, arith, inl, inr, subst}
use Rattle.std.specs.Prelude.{ℕ, zero, suc, ◌+◌, ◌*◌, ◌<◌, ◌≤◌, ◌≢◌, ◌==◌, ◌⊎◌, Bool, true, false, if◌then◌else◌, pos, ◌-ℤ◌, List, [], ◌∷◌, map, length, slice_set}
use Rattle.std.specs.List.{range_with_len}
use Rattle.std.proofs.lemmas.Int.{ints}
use Rattle.std.proofs.lemmas.List.{get_or-set_same, get_or-set_other, length-set}
use Rattle.index_shift.specs.Potential.{Annotation}
use Rattle.index_shift.specs.Potential as i
use Rattle.index_shift.specs.declared.entry.Entry.{Entry}
use Rattle.annot_types.specs.Carried.{more}
use Rattle.annot_types.specs.Rows.{Assignment, Row, none}
use Rattle.rules_spec.specs.Plan.{Step}
use Rattle.rules_spec.specs.Walk.{at, added, brought, nothing, moved, against, numbered, at_zero}
use Rattle.rules_spec.specs.Asked.{given}
use Rattle.rules_spec.specs.Stand.{Ranged}
use Rattle.rules_spec.specs.Systems.{Sum, sums, told_at, row_at}
use Rattle.rules_spec.proofs.Standing.{at_place, place_same, place_other, same_or, nothing_at, nothing_len}

pub sum_of : (a b c d e f : ℕ) → a ≡ b → c ≡ d → e ≡ f → ◌≡◌ {A = Sum} (record { has = a; plus = c; minus = e }) (record { has = b; plus = d; minus = f })
sum_of a b c d e f x y z = λ j. record { has = x j; plus = y j; minus = z j }

-- n entries, with these unknowns, numbers, and prices taken
pub record Full (n : ℕ) (a : List Sum) (q p o : Annotation) : Type 0 where
  pub len : length a ≡ n
  pub is : (k : ℕ) → k < n → at sums a k ≡ record { has = q k; plus = p k; minus = o k }

pub full_same : (n : ℕ) (a : List Sum) (q p o q' p' o' : Annotation) → Full n a q p o → ((k : ℕ) → q k ≡ q' k) → ((k : ℕ) → p k ≡ p' k) → ((k : ℕ) → o k ≡ o' k) → Full n a q' p' o'
full_same n a q p o q' p' o' f x y z = record { len = f.len; is = λ k b. f.is k b ∙ sum_of _ _ _ _ _ _ (x k) (y k) (z k) }

added_full : (n : ℕ) (out : List Sum) (q p o : Annotation) (j t : ℕ) (x : Sum) (u v w : ℕ) → Full n out q p o → j < n → x ≡ record { has = u; plus = v; minus = w } →
    Full n (added sums out j t x) (λ k. q k + at_place j k (t * u)) (λ k. p k + at_place j k (t * v)) (λ k. o k + at_place j k (t * w))
added_full n out q p o j t x u v w f h e =
    let y : Sum = sums.plus (at sums out j) (sums.times t x) in
    record { len = length-set out j y ∙ f.len; is = λ k b. by k b (same_or j k) } where
      by : (k : ℕ) → k < n → (j ≡ k) ⊎ (j ≢ k) →
          at sums (added sums out j t x) k ≡ record { has = q k + at_place j k (t * u); plus = p k + at_place j k (t * v); minus = o k + at_place j k (t * w) }
      by k b (inl s) =
          let y : Sum = sums.plus (at sums out j) (sums.times t x) in
          let g : at sums (slice_set out j y) j ≡ y = get_or-set_same out j y sums.none (omega (arith, h, f.len)) in
          let y_is : y ≡ record { has = q j + t * u; plus = p j + t * v; minus = o j + t * w } = λ i. sums.plus (f.is j h i) (sums.times t (e i)) in
          subst (λ k. at sums (slice_set out j y) k ≡ record { has = q k + at_place j k (t * u); plus = p k + at_place j k (t * v); minus = o k + at_place j k (t * w) }) s
          (g ∙ y_is ∙ sum_of _ _ _ _ _ _ (ap (λ z. q j + z) (sym (place_same j j (t * u) refl))) (ap (λ z. p j + z) (sym (place_same j j (t * v) refl))) (ap (λ z. o j + z) (sym (place_same j j (t * w) refl))))
      by k b (inr s) =
          let y : Sum = sums.plus (at sums out j) (sums.times t x) in
          let g : at sums (slice_set out j y) k ≡ at sums out k = get_or-set_other out j k y sums.none (λ e. s (sym e)) in
          g ∙ f.is k b ∙ sum_of _ _ _ _ _ _ (omega (arith, place_other j k (t * u) s)) (omega (arith, place_other j k (t * v) s)) (omega (arith, place_other j k (t * w) s))

plus_zero : (a : ℕ) → a ≡ a + 0
plus_zero a = omega arith

zero_plus : (a : ℕ) → 0 + a ≡ a
zero_plus a = omega arith

regroup : (a b c : ℕ) → (a + b) + c ≡ a + (b + c)
regroup a b c = omega arith

pub brought_full : (n m : ℕ) (a : List Sum) (q p o : Annotation) (es : List Entry) (out : List Sum) (q' p' o' : Annotation) → Ranged n m es → Full n a q p o → Full m out q' p' o' →
    Full m (brought sums out es a) (λ k. q' k + i.moved es q k) (λ k. p' k + i.moved es p k) (λ k. o' k + i.moved es o k)
brought_full n m a q p o [] out q' p' o' r f g = full_same m out q' p' o' _ _ _ g (λ k. plus_zero (q' k)) (λ k. plus_zero (p' k)) (λ k. plus_zero (o' k))
brought_full n m a q p o (e ∷ es) out q' p' o' r f g =
    let next = added_full m out q' p' o' e.to e.times (at sums a e.from) (q e.from) (p e.from) (o e.from) g r.1 (f.is e.from r.0) in
    full_same m _ _ _ _ _ _ _ (brought_full n m a q p o es (added sums out e.to e.times (at sums a e.from)) _ _ _ r.2 f next)
    (λ k. regroup (q' k) (at_place e.to k (e.times * q e.from)) (i.moved es q k)) (λ k. regroup (p' k) (at_place e.to k (e.times * p e.from)) (i.moved es p k)) (λ k. regroup (o' k) (at_place e.to k (e.times * o e.from)) (i.moved es o k))

pub nothing_full : (n : ℕ) → Full n (nothing sums n) none none none
nothing_full n = record { len = nothing_len sums n; is = λ k b. nothing_at sums n k }

pub moved_full : (n : ℕ) (a : List Sum) (q p o : Annotation) (s : Step) → Ranged n s.size s.entries → Full n a q p o → Full s.size (moved sums s a) (i.moved s.entries q) (i.moved s.entries p) (i.moved s.entries o)
moved_full n a q p o s r f = full_same s.size _ _ _ _ _ _ _ (brought_full n s.size a q p o s.entries (nothing sums s.size) none none none r f (nothing_full s.size)) (λ k. zero_plus (i.moved s.entries q k)) (λ k. zero_plus (i.moved s.entries p k)) (λ k. zero_plus (i.moved s.entries o k))

pub moved_none : (es : List Entry) (k : ℕ) → i.moved es none k ≡ 0
moved_none [] k = refl
moved_none (e ∷ es) k = by (e.to == k) (moved_none es k) where
  by : (b : Bool) → i.moved es none k ≡ 0 → (if b then e.times * 0 else 0) + i.moved es none k ≡ 0
  by true h = omega (arith, h)
  by false h = omega (arith, h)

pub less_full : (n : ℕ) (a : List Sum) (q p o : Annotation) (K : ℕ) → Full n a q p o → Full n (at_zero (sums.less K) a) q p (more K o)
less_full n [] q p o K f = record { len = f.len; is = λ k b. absurd (omega (arith, b, f.len)) }
less_full n (x ∷ a) q p o K f = record { len = f.len; is = by } where
  by : (k : ℕ) → k < n → at sums (sums.less K x ∷ a) k ≡ record { has = q k; plus = p k; minus = more K o k }
  by zero b = ap (sums.less K) (f.is 0 b) ∙ sum_of _ _ _ _ _ _ refl refl (omega arith)
  by (suc k) b = f.is (suc k) b

pub more_full : (n : ℕ) (a : List Sum) (q p o : Annotation) (K : ℕ) → Full n a q p o → Full n (at_zero (sums.plus (sums.number K)) a) q (more K p) o
more_full n [] q p o K f = record { len = f.len; is = λ k b. absurd (omega (arith, b, f.len)) }
more_full n (x ∷ a) q p o K f = record { len = f.len; is = by } where
  by : (k : ℕ) → k < n → at sums (sums.plus (sums.number K) x ∷ a) k ≡ record { has = q k; plus = more K p k; minus = o k }
  by zero b = ap (sums.plus (sums.number K)) (f.is 0 b) ∙ sum_of _ _ _ _ _ _ (omega arith) refl (omega arith)
  by (suc k) b = f.is (suc k) b

behind_full : (n : ℕ) (x : Sum) (a : List Sum) (q p o : Annotation) → Full (suc n) (x ∷ a) q p o → Full n a (λ k. q (suc k)) (λ k. p (suc k)) (λ k. o (suc k))
behind_full n x a q p o f = record { len = omega (arith, f.len); is = λ k b. f.is (suc k) (omega (arith, b)) }

pub map_shift : {X : Type 0} (f : ℕ → X) (from n : ℕ) → map f (range_with_len (from + 1) n) ≡ map (λ k. f (suc k)) (range_with_len from n)
map_shift f from zero = refl
map_shift f from (suc n) = let e : from + 1 ≡ suc from = omega arith in λ j. f (e j) ∷ map_shift f (from + 1) n j

pub map_same : {X : Type 0} (f g : ℕ → X) (from n : ℕ) → ((k : ℕ) → f k ≡ g k) → map f (range_with_len from n) ≡ map g (range_with_len from n)
map_same f g from zero h = refl
map_same f g from (suc n) h = λ j. h from j ∷ map_same f g (from + 1) n h j

-- the rows of two lists of entries
abbrev pub pair_row : Annotation → Annotation → Annotation → Annotation → Annotation → Annotation → ℕ → Row
pair_row q p o r s t k = record { has = q k; asks = r k; right = pos (s k + o k) -ℤ pos (p k + t k) }

row_of : (x y x' y' : Sum) (path : List ℕ) (j : ℕ) → x ≡ x' → y ≡ y' → row_at (record { path = path; index = j; left = x; right = y }) ≡ row_at (record { path = path; index = j; left = x'; right = y' })
row_of x y x' y' path j e h = λ i. row_at (record { path = path; index = j; left = e i; right = h i })

pub pairs_rows : (n m : ℕ) (a b : List Sum) (q p o r s t : Annotation) (path : List ℕ) (j : ℕ) → m ≤ n → Full n a q p o → Full m b r s t →
    map row_at (numbered path j (against sums a b)) ≡ map (pair_row q p o r s t) (range_with_len 0 m)
pairs_rows n zero a [] q p o r s t path j h f g = refl
pairs_rows n zero a (y ∷ b) q p o r s t path j h f g = absurd (omega (arith, g.len))
pairs_rows n (suc m) a [] q p o r s t path j h f g = absurd (omega (arith, g.len))
pairs_rows n (suc m) [] (y ∷ b) q p o r s t path j h f g = absurd (omega (arith, h, f.len))
pairs_rows zero (suc m) (x ∷ a) (y ∷ b) q p o r s t path j h f g = absurd (omega (arith, h))
pairs_rows (suc n) (suc m) (x ∷ a) (y ∷ b) q p o r s t path j h f g =
    (λ i. row_of x y _ _ path j (f.is 0 (omega arith)) (g.is 0 (omega arith)) i ∷
    pairs_rows n m a b _ _ _ _ _ _ path (suc j) (omega (arith, h)) (behind_full n x a q p o f) (behind_full m y b r s t g) i)
    ∙ ap (λ l. pair_row q p o r s t 0 ∷ l) (sym (map_shift (pair_row q p o r s t) 0 m))

-- right sides
pub owed_right : (a : ℕ) → pos a -ℤ pos 0 ≡ pos a
owed_right a = omega (arith, ints)

-- the entries of unknowns
pub given_full : (x : Assignment) (first n : ℕ) → Full n (given (told_at x) first n) (λ k. x (first + k)) none none
given_full x first zero = record { len = refl; is = λ k b. absurd (omega (arith, b)) }
given_full x first (suc n) = let f = given_full x (suc first) n in record { len = ap suc f.len; is = by f } where
  by : Full n (given (told_at x) (suc first) n) (λ k. x (suc first + k)) none none → (k : ℕ) → k < suc n → at sums (given (told_at x) first (suc n)) k ≡ record { has = x (first + k); plus = 0; minus = 0 }
  by f zero b = sum_of _ _ _ _ _ _ (ap x (omega arith)) refl refl
  by f (suc k) b = f.is k (omega (arith, b)) ∙ sum_of _ _ _ _ _ _ (ap x (omega arith)) refl refl
