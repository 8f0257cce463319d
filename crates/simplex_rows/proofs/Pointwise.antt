-- What a walk over two rows says of each column.
use Rattle.simplex_rows.specs.declared.fault.RowFault.{RowFault}
use Rattle.std.proofs.Common.{◌≡◌, ◌≢◌, refl, sym, ap, subst, ◌∙◌, ℕ, suc, ◌<◌, ◌≤◌, min, [], ◌∷◌, Result, Ok, Err, IsErrAnd, arith, pos, Bool, true, false, Some, None, ◌==◌, if◌then◌else◌, ◌⊎◌, inl, inr}
use Rattle.std.proofs.lemmas.Bool.Decides.{nat_tests}
use Rattle.std.specs.Ordering.{int_eq}
use Rattle.std.proofs.lemmas.Nat.Gcd.{dvd_refl}
use Rattle.std.proofs.Math.Nat.{dvd-zero}
use Rattle.std.specs.Int.RustNames.{unsigned_abs}
use Prim.Native.Nat.{◌∣◌}
use Rattle.frac128.specs.declared.Frac.{Frac}
use Rattle.frac128.specs.Nought.{nought}
use Rattle.simplex_rows.specs.Entries.{Entries, at, IsLess, LessLeaves, SparseFrom}
use Rattle.simplex_rows.specs.Merging.{least_column, Takes, TakesIf, put, Merges, End, Step, MergeLeaves, Here, There}
use Rattle.simplex_rows.proofs.Differing.{less_nothing}

-- the columns are from b on, so none is before
pub weaker : (b c : ℕ) (es : Entries) → SparseFrom b es → c ≤ b → SparseFrom c es
weaker b c [] s h = tt
weaker b c ((k, x) ∷ es) s h = (let l = s.0 in omega arith, s.1, s.2)

pub none_before : (b c : ℕ) (es : Entries) → SparseFrom b es → c < b → at c es ≡ nought
none_before b c [] s h = refl
none_before b c ((k, x) ∷ es) s h =
    let l : b ≤ k = s.0 in
    let e : (k == c) ≡ false = grind (arith, nat_tests) in
    rw e (none_before (suc k) c es s.2 (omega arith))

-- fractions with the same parts
pub record Same (x y : Frac) : Type 0 where
  pub num : x.num ≡ y.num
  pub den : x.den ≡ y.den

pub same : (x : Frac) → Same x x
same x = record { num = refl; den = refl }

pub of_path : (x y : Frac) → x ≡ y → Same x y
of_path x y e = record { num = ap (λ (z : Frac). z.num) e; den = ap (λ (z : Frac). z.den) e }

pub less_same : (x f q r y g s : Frac) → Same y x → Same g q → Same s r → IsLess x f q r → IsLess y f g s
less_same x f q r y g s a b c l = record {
  product = l.product;
  is_product = rw (b.num, b.den) l.is_product;
  fits = λ m h. rw (a.num, a.den) (l.fits m (rw a.den at h));
  is_difference = rw (a.num, a.den, c.num, c.den) l.is_difference;
}

pub leaves_same : (x f q y g : Frac) → Same y x → Same g q → LessLeaves x f q → LessLeaves y f g
leaves_same x f q y g a b (inl n) = inl (λ p e. n p (rw (b.num, b.den) at e))
leaves_same x f q y g a b (inr (p, e, n)) = inr (p, rw (b.num, b.den) e, λ m h d. n m (rw a.den at h) (rw (a.num, a.den) at d))

-- a step takes what stands at its column, and leaves the others
taken_here : (b : Bool) (c : ℕ) (e : ℕ × Frac) (es : Entries) (x : Frac) (rest : Entries) → (e.0 == c) ≡ b → (b ≡ false → c < e.0) → SparseFrom (suc e.0) es → TakesIf b e es x rest → Same (if b then e.1 else at c es) x
taken_here true c e es x rest g h s t = of_path e.1 x (sym t.0)
taken_here false c e es x rest g h s t = let z = none_before (suc e.0) c es s (let l = h refl in omega arith) in record { num = ap (λ (y : Frac). y.num) z ∙ sym t.0.0; den = ap (λ (y : Frac). y.den) z ∙ sym t.0.1 }

pub takes_here : (c : ℕ) (es : Entries) (x : Frac) (rest : Entries) → SparseFrom c es → Takes c es x rest → Same (at c es) x
takes_here c [] x rest s t = record { num = sym t.0.0; den = sym t.0.1 }
takes_here c (e ∷ es) x rest s t = taken_here (e.0 == c) c e es x rest refl (λ n. let l : c ≤ e.0 = s.0 in grind (arith, nat_tests)) s.2 t

taken_other : (b : Bool) (c k : ℕ) (e : ℕ × Frac) (es : Entries) (x : Frac) (rest : Entries) → (e.0 == c) ≡ b → k ≢ c → TakesIf b e es x rest → at k (e ∷ es) ≡ at k rest
taken_other true c k e es x rest g n t = let q : (e.0 == k) ≡ false = grind (arith, nat_tests) in rw q (ap (at k) (sym t.1))
taken_other false c k e es x rest g n t = ap (at k) (sym t.1)

pub takes_other : (c k : ℕ) (es : Entries) (x : Frac) (rest : Entries) → k ≢ c → Takes c es x rest → at k es ≡ at k rest
takes_other c k [] x rest n t = ap (at k) (sym t.1)
takes_other c k (e ∷ es) x rest n t = taken_other (e.0 == c) c k e es x rest refl n t

taken_sparse : (b : Bool) (c : ℕ) (e : ℕ × Frac) (es : Entries) (x : Frac) (rest : Entries) → (e.0 == c) ≡ b → SparseFrom c (e ∷ es) → TakesIf b e es x rest → SparseFrom (suc c) rest
taken_sparse true c e es x rest g s t = let q : e.0 ≡ c = grind (arith, nat_tests) in subst (SparseFrom (suc c)) (sym t.1) (subst (λ n. SparseFrom (suc n) es) q s.2)
taken_sparse false c e es x rest g s t = let l : c ≤ e.0 = s.0 in subst (SparseFrom (suc c)) (sym t.1) (grind (arith, nat_tests), s.1, s.2)

pub takes_sparse : (c : ℕ) (es : Entries) (x : Frac) (rest : Entries) → SparseFrom c es → Takes c es x rest → SparseFrom (suc c) rest
takes_sparse c [] x rest s t = subst (SparseFrom (suc c)) (sym t.1) tt
takes_sparse c (e ∷ es) x rest s t = taken_sparse (e.0 == c) c e es x rest refl s t

-- both rows are from the least column on
pub both_from : (b : ℕ) (xs qs : Entries) (c : ℕ) → SparseFrom b xs → SparseFrom b qs → least_column xs qs ≡ Some c → (b ≤ c) × SparseFrom c xs × SparseFrom c qs
both_from b [] [] c s t e = absurd (cc)
both_from b (x ∷ xs) [] c s t e = let p : x.0 ≡ c = cc in let l = s.0 in (omega arith, (omega arith, s.1, s.2), tt)
both_from b [] (q ∷ qs) c s t e = let p : q.0 ≡ c = cc in let l = t.0 in (omega arith, tt, (omega arith, t.1, t.2))
both_from b (x ∷ xs) (q ∷ qs) c s t e = let p : min x.0 q.0 ≡ c = cc in let l = s.0 in let m = t.0 in (omega arith, (omega arith, s.1, s.2), (omega arith, t.1, t.2))

-- 0 in lowest terms is over 1
pub over_one : (r : Frac) → r.num ≡ pos 0 → r.den ≡ 1
over_one r e = r.lowest.coprime.common r.den (subst (λ n. r.den ∣ unsigned_abs n) (sym e) (dvd-zero r.den)) (dvd_refl r.den)

-- the fraction that is put
put_sparse : (c : ℕ) (r : Frac) (es : Entries) (b : ℕ) → b ≤ c → SparseFrom (suc c) es → SparseFrom b (put c r es)
put_sparse c r es b h s = by (int_eq r.num (pos 0)) refl
  where
    by : (z : Bool) → int_eq r.num (pos 0) ≡ z → SparseFrom b (if z then es else (c, r) ∷ es)
    by true e = weaker (suc c) b es s (omega arith)
    by false e = (h, (λ n. grind (arith, nat_tests)), s)

put_here : (c : ℕ) (r : Frac) (es : Entries) → SparseFrom (suc c) es → Same (at c (put c r es)) r
put_here c r es s = by (int_eq r.num (pos 0)) refl
  where
    by : (z : Bool) → int_eq r.num (pos 0) ≡ z → Same (at c (if z then es else (c, r) ∷ es)) r
    by true e = let n : r.num ≡ pos 0 = grind (arith, nat_tests) in let a = none_before (suc c) c es s (omega arith) in record { num = ap (λ (y : Frac). y.num) a ∙ sym n; den = ap (λ (y : Frac). y.den) a ∙ sym (over_one r n) }
    by false e = let q : (c == c) ≡ true = grind (arith, nat_tests) in rw q (same r)

put_other : (c k : ℕ) (r : Frac) (es : Entries) → k ≢ c → at k (put c r es) ≡ at k es
put_other c k r es n = by (int_eq r.num (pos 0)) refl
  where
    by : (z : Bool) → int_eq r.num (pos 0) ≡ z → at k (if z then es else (c, r) ∷ es) ≡ at k es
    by true e = refl
    by false e = let q : (c == k) ≡ false = grind (arith, nat_tests) in rw q refl

-- a column is that of the step, or another
same_or_not : (a b : ℕ) → (a ≡ b) ⊎ (a ≢ b)
same_or_not a b = grind arith

no_columns : (xs qs : Entries) → least_column xs qs ≡ None → (xs ≡ []) × (qs ≡ [])
no_columns [] [] e = (refl, refl)
no_columns (x ∷ xs) [] e = absurd (cc)
no_columns [] (q ∷ qs) e = absurd (cc)
no_columns (x ∷ xs) (q ∷ qs) e = absurd (cc)

-- each column of a walk's end
pub record Columns (f : Frac) (b : ℕ) (xs qs rs : Entries) : Type 0 where
  pub sparse : SparseFrom b rs
  pub each : (k : ℕ) → IsLess (at k xs) f (at k qs) (at k rs)

pub each_column : (f : Frac) (b : ℕ) (xs qs rs : Entries) → SparseFrom b xs → SparseFrom b qs → Merges f xs qs rs → Columns f b xs qs rs
each_column f b xs qs rs s t (End e g) =
    let n = no_columns xs qs e in
    record {
      sparse = subst (SparseFrom b) (sym g) tt;
      each = λ k. less_same nought f nought nought (at k xs) (at k qs) (at k rs) (of_path _ _ (ap (at k) n.0)) (of_path _ _ (ap (at k) n.1)) (of_path _ _ (ap (at k) g)) (less_nothing nought f nought refl);
    }
each_column f b xs qs rs s t (Step {xs' = xs'} {qs' = qs'} {rs = rest} {c = c} {x = x} {q = q} {r = r} step less m) =
    let from = both_from b xs qs c s t step.least in
    let more = each_column f (suc c) xs' qs' rest (takes_sparse c xs x xs' from.1 step.first) (takes_sparse c qs q qs' from.2 step.second) m in
    record {
      sparse = put_sparse c r rest b from.0 more.sparse;
      each = λ k. elim (same_or_not k c) [
        | inl e ↦ subst (λ (j : ℕ). IsLess (at j xs) f (at j qs) (at j (put c r rest))) (sym e)
            (less_same x f q r (at c xs) (at c qs) (at c (put c r rest)) (takes_here c xs x xs' from.1 step.first) (takes_here c qs q qs' from.2 step.second) (put_here c r rest more.sparse) less)
        | inr n ↦ less_same (at k xs') f (at k qs') (at k rest) (at k xs) (at k qs) (at k (put c r rest))
            (of_path _ _ (takes_other c k xs x xs' n step.first)) (of_path _ _ (takes_other c k qs q qs' n step.second)) (of_path _ _ (put_other c k r rest n)) (more.each k)
      ];
    }

-- the column where it leaves the range
pub leaves_at : (f : Frac) (b : ℕ) (xs qs : Entries) (k : ℕ) → SparseFrom b xs → SparseFrom b qs → MergeLeaves f xs qs k → (b ≤ k) × LessLeaves (at k xs) f (at k qs)
leaves_at f b xs qs k s t (Here {xs' = xs'} {qs' = qs'} {x = x} {q = q} step l) =
    let from = both_from b xs qs k s t step.least in
    (from.0, leaves_same x f q (at k xs) (at k qs) (takes_here k xs x xs' from.1 step.first) (takes_here k qs q qs' from.2 step.second) l)
leaves_at f b xs qs k s t (There {xs' = xs'} {qs' = qs'} {c = c} {x = x} {q = q} step m) =
    let from = both_from b xs qs c s t step.least in
    let more = leaves_at f (suc c) xs' qs' k (takes_sparse c xs x xs' from.1 step.first) (takes_sparse c qs q qs' from.2 step.second) m in
    let low = from.0 in
    let high = more.0 in
    let n : k ≢ c = (λ e. omega arith) in
    (omega arith, leaves_same (at k xs') f (at k qs') (at k xs) (at k qs) (of_path _ _ (takes_other c k xs x xs' n step.first)) (of_path _ _ (takes_other c k qs q qs' n step.second)) more.1)

-- the error of an answer
pub of_error : (r : Result (Unit {0}) RowFault) (e f : RowFault) → IsErrAnd r (λ x. x ≡ e) → r ≡ Err f → e ≡ f
of_error (Ok u) e f h g = absurd (cc)
of_error (Err x) e f h g = sym h ∙ (let p : x ≡ f = cc in p)
