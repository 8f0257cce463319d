-- Numbers that are divided one by one.
use Rattle.std.proofs.Common.{◌≡◌, ◌≢◌, refl, sym, ap, subst, ◌∙◌, ℕ, suc, ◌+◌, ◌*◌, ◌<◌, ◌≤◌, [], ◌∷◌, length, take, drop, ◌++◌, get_or, set, arith, ℤ, pos, ◌*ℤ◌, Bool, true, false, ◌==◌, if◌then◌else◌, ◌⊎◌, inl, inr}
use Rattle.std.proofs.lemmas.Int.{ints}
use Rattle.std.proofs.lemmas.List.{length-set, get_or_default, get_or-set_same, get_or-set_other, drop_all, take_all, append-nil}
use Rattle.std.proofs.Math.Nat.{mul-pos}
use lib.IntN.{*ℤ_comm}
use Rattle.raml_num.proofs.Signed.{cancelled}
use Rattle.frac128.specs.declared.Frac.{Frac}
use Rattle.frac128.specs.Values.{IsQuotient}
use Rattle.frac128.specs.Nought.{nought}
use Rattle.simplex_rows.specs.Entries.{Entries, at, entry_at, SparseFrom, IsSparse}
use Rattle.simplex_rows.specs.Dividing.{IsDivided, AreQuotients}
use Rattle.simplex_rows.proofs.Finding.{present}

-- those before place i are divided, and the others are as they were
pub record Divided (by : Frac) (xs ys : Entries) (i : ℕ) : Type 0 where
  pub as_long : length ys ≡ length xs
  pub done : (k : ℕ) → k < i → IsDivided by (entry_at xs k) (entry_at ys k)
  pub left : (k : ℕ) → i ≤ k → entry_at ys k ≡ entry_at xs k

last_or_before : (k i : ℕ) → k < i + 1 → (k ≡ i) ⊎ (k < i)
last_or_before k i h = grind arith

pub goes_on : (by : Frac) (xs ys : Entries) (i : ℕ) (e : ℕ × Frac) (q : Frac) → e ≡ entry_at ys i → i < length ys → Divided by xs ys i → IsQuotient e.1 by q → Divided by xs (set ys i (e.0, q)) (i + 1)
goes_on by xs ys i e q is h d quotient = record {
  as_long = length-set ys i (e.0, q) ∙ d.as_long;
  done = λ k lt. elim (last_or_before k i lt) [
    | inl same ↦ subst (λ (j : ℕ). IsDivided by (entry_at xs j) (entry_at (set ys i (e.0, q)) j)) (sym same)
        (rw (get_or-set_same ys i (e.0, q) (0, nought) h) (subst (λ (z : ℕ × Frac). IsDivided by z (e.0, q)) (is ∙ d.left i (omega arith)) (refl, quotient)))
    | inr before ↦ subst (λ (z : ℕ × Frac). IsDivided by (entry_at xs k) z) (sym (get_or-set_other ys i k (e.0, q) (0, nought) (λ n. omega arith))) (d.done k before)
  ];
  left = λ k le. get_or-set_other ys i k (e.0, q) (0, nought) (λ n. omega arith) ∙ d.left k (omega arith);
}

-- the number that comes next stands at its column
pub comes_next : (by : Frac) (xs ys : Entries) (i : ℕ) (d e : ℕ × Frac) → IsSparse xs → i < length ys → Divided by xs ys i → at (let x = get_or ys i d in x.0) xs ≡ (let y = get_or ys i e in y.1)
comes_next by xs ys i d e sparse h divided =
    let long = divided.as_long in
    let same = divided.left i (omega arith) in
    rw (get_or_default ys i d (0, nought) h, get_or_default ys i e (0, nought) h, same) (present 0 xs i sparse (omega arith))

pub all_divided : (by : Frac) (xs ys : Entries) → length ys ≡ length xs → ((k : ℕ) → k < length xs → IsDivided by (entry_at xs k) (entry_at ys k)) → AreQuotients by xs ys
all_divided by [] [] l h = tt
all_divided by [] (y ∷ ys) l h = absurd (omega arith)
all_divided by (x ∷ xs) [] l h = absurd (omega arith)
all_divided by (x ∷ xs) (y ∷ ys) l h = (h 0 (omega arith), all_divided by xs ys (omega arith) (λ k lt. h (suc k) (omega arith)))

-- at each column
no_quotient : (by : Frac) → IsQuotient nought by nought
no_quotient by = omega (arith, ints)

pub quotient_at : (by : Frac) (xs ys : Entries) (c : ℕ) → AreQuotients by xs ys → IsQuotient (at c xs) by (at c ys)
quotient_at by [] [] c d = no_quotient by
quotient_at by [] (y ∷ ys) c d = absurd d
quotient_at by (x ∷ xs) [] c d = absurd d
quotient_at by ((k, x) ∷ xs) ((j, y) ∷ ys) c d = subst (λ (i : ℕ). IsQuotient (at c ((k, x) ∷ xs)) by (at c ((i, y) ∷ ys))) (sym d.0.0) (by_test (k == c) (quotient_at by xs ys c d.1))
  where
    by_test : (b : Bool) → IsQuotient (at c xs) by (at c ys) → IsQuotient (if b then x else at c xs) by (if b then y else at c ys)
    by_test true h = d.0.1
    by_test false h = h

gone : (a b : ℤ) (d : ℕ) → 0 < d → b ≡ pos 0 → a *ℤ pos d ≡ b → a ≡ pos 0
gone a b d h e g =
    let c : pos d *ℤ a ≡ a *ℤ pos d = *ℤ_comm (pos d) a in
    let z : pos d *ℤ pos 0 ≡ pos 0 = omega (arith, ints) in
    cancelled (pos d) a (pos 0) (λ n. omega (arith, ints)) (c ∙ g ∙ e ∙ sym z)

none_of : (a b : ℤ) (d : ℕ) → a ≡ pos 0 → (a *ℤ b) *ℤ pos d ≡ pos 0
none_of a b d e =
    let z : a *ℤ b ≡ pos 0 = rw e (omega (arith, ints)) in
    rw z (omega (arith, ints))

not_zero : (x by q : Frac) → x.num ≢ pos 0 → IsQuotient x by q → q.num ≢ pos 0
not_zero x by q n d e = n (gone x.num ((q.num *ℤ by.num) *ℤ pos x.den) (q.den * by.den) (mul-pos q.lowest.positive by.lowest.positive) (none_of q.num by.num x.den e) d)

divided_sparse : (by : Frac) (b : ℕ) (xs ys : Entries) → SparseFrom b xs → AreQuotients by xs ys → SparseFrom b ys
divided_sparse by b [] [] s d = tt
divided_sparse by b [] (y ∷ ys) s d = absurd d
divided_sparse by b (x ∷ xs) [] s d = absurd d
divided_sparse by b ((k, x) ∷ xs) ((j, y) ∷ ys) s d = subst (λ (i : ℕ). SparseFrom b ((i, y) ∷ ys)) (sym d.0.0) (s.0, not_zero x by y s.1 d.0.1, divided_sparse by (suc k) xs ys s.2 d.1)

same_length : (by : Frac) (xs ys : Entries) → AreQuotients by xs ys → length xs ≡ length ys
same_length by [] [] d = refl
same_length by [] (y ∷ ys) d = absurd d
same_length by (x ∷ xs) [] d = absurd d
same_length by (x ∷ xs) (y ∷ ys) d = ap suc (same_length by xs ys d.1)

-- a vector whose numbers were all divided in place
written_back : (n : ℕ) (xs ys : Entries) → n ≡ length xs → length ys ≡ n → take n (ys ++ drop (length ys) xs) ≡ ys
written_back n xs ys e l =
    let past : length xs ≤ length ys = omega arith in
    let same : take (length ys) ys ≡ ys = take_all (length ys) ys (omega arith) in
    rw (drop_all (length ys) xs past, append-nil, ← l) same

pub record WrittenBack (by : Frac) (n : ℕ) (xs ys : Entries) : Type 0 where
  pub all : take n (ys ++ drop (length ys) xs) ≡ ys
  pub sparse : IsSparse ys
  pub each : (c : ℕ) → IsQuotient (at c xs) by (at c ys)

pub in_vector : (by : Frac) (n : ℕ) (xs slice ys : Entries) → IsSparse xs → slice ≡ xs → length slice ≡ n → AreQuotients by slice ys → WrittenBack by n xs ys
in_vector by n xs slice ys s e l d =
    let long = same_length by slice ys d in
    let same = ap length e in
    let divided : AreQuotients by xs ys = subst (λ z. AreQuotients by z ys) e d in
    record { all = written_back n xs ys (omega arith) (omega arith); sparse = divided_sparse by 0 xs ys s divided; each = λ c. quotient_at by xs ys c divided }
