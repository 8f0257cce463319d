-- A row over what its numbers have in common.
use Rattle.std.proofs.Common.{◌≡◌, ◌≢◌, refl, sym, ap, subst, ◌∙◌, ℕ, zero, suc, ◌<◌, ◌≤◌, ◌+◌, [], ◌∷◌, ◌++◌, map, take, drop, length, List, FitsSigned, get_or, set, arith, to_z, of_z, w64, ℤ, pos, ◌<ℤ◌, ◌≤ℤ◌, ◌*ℤ◌, unsigned_abs, ◌^◌, ◌-◌, Bool, true, false, ◌==◌, if◌then◌else◌}
use Rattle.std.specs.Int.RustNames.{int_div}
use Rattle.std.proofs.lemmas.Int.{ints, quot_is, quot_fits, to_z-of_z}
use Rattle.std.proofs.lemmas.List.{drop_all, take_all, append-nil}
use Rattle.simplex_rows.specs.ShortRows.{Wholes, ShortRow, IsShort, whole_at, AscendsFrom, AreWithin, SameValues}
use Rattle.simplex_rows.specs.Multiples.{IsMultiple, AreMultiples, quotients}
use Rattle.simplex_rows.proofs.Divisors.{exact, positive_factor, quotient_within, swapped}
use Rattle.simplex_rows.proofs.Wholes.{kept_whole, within_more, number_within}

pub exact_at : (k : ℤ) (ns : Wholes) (c : ℕ) → AreMultiples k (map (λ e. e.1) ns) → whole_at c (quotients k ns) *ℤ k ≡ whole_at c ns
exact_at k [] c d = omega (arith, ints)
exact_at k ((j, n) ∷ ns) c d = by (j == c) (exact_at k ns c d.1)
  where
    by : (t : Bool) → whole_at c (quotients k ns) *ℤ k ≡ whole_at c ns → (if t then int_div n k else whole_at c (quotients k ns)) *ℤ k ≡ (if t then n else whole_at c ns)
    by true h = exact n k d.0
    by false h = h

pub same_columns : (k : ℤ) (ns : Wholes) → map (λ e. e.0) (quotients k ns) ≡ map (λ e. e.0) ns
same_columns k [] = refl
same_columns k (n ∷ ns) = ap (λ (cs : List ℕ). n.0 ∷ cs) (same_columns k ns)

not_zero : (n k : ℤ) → n ≢ pos 0 → IsMultiple k n → int_div n k ≢ pos 0
not_zero n k z d e = z (sym (exact n k d) ∙ rw e (omega (arith, ints)))

pub quotients_ascend : (k : ℤ) (b : ℕ) (ns : Wholes) → AreMultiples k (map (λ e. e.1) ns) → AscendsFrom b ns → AscendsFrom b (quotients k ns)
quotients_ascend k b [] d s = tt
quotients_ascend k b (n ∷ ns) d s = (s.0, not_zero n.1 k s.1 d.0, quotients_ascend k (suc n.0) ns d.1 s.2)

pub quotients_within : (k b : ℤ) (ns : Wholes) → pos 0 <ℤ k → AreMultiples k (map (λ e. e.1) ns) → AreWithin b ns → AreWithin b (quotients k ns)
quotients_within k b [] h d w = tt
quotients_within k b (n ∷ ns) h d w =
    let l = quotient_within (int_div n.1 k) n.1 k h (exact n.1 k d.0) in
    let m = w.0 in
    (omega (arith, ints), quotients_within k b ns h d.1 w.1)

-- numbers divided one by one, up to a place
abbrev pub divided_to : ℕ → ℤ → Wholes → Wholes
divided_to zero k ns = ns
divided_to (suc i) k [] = []
divided_to (suc i) k ((c, n) ∷ ns) = (c, int_div n k) ∷ divided_to i k ns

pub all_divided : (i : ℕ) (k : ℤ) (ns : Wholes) → length ns ≤ i → divided_to i k ns ≡ quotients k ns
all_divided zero k [] h = refl
all_divided zero k (n ∷ ns) h = absurd (omega arith)
all_divided (suc i) k [] h = refl
all_divided (suc i) k (n ∷ ns) h = ap (λ (ms : Wholes). (n.0, int_div n.1 k) ∷ ms) (all_divided i k ns (omega arith))

pub not_divided_yet : (i : ℕ) (k : ℤ) (ns : Wholes) (d : ℕ × ℤ) → get_or (divided_to i k ns) i d ≡ get_or ns i d
not_divided_yet zero k ns d = refl
not_divided_yet (suc i) k [] d = refl
not_divided_yet (suc i) k (n ∷ ns) d = not_divided_yet i k ns d

pub one_more : (i : ℕ) (k : ℤ) (ns : Wholes) (d e : ℕ × ℤ) → i < length ns → e ≡ get_or ns i d → set (divided_to i k ns) i (e.0, int_div e.1 k) ≡ divided_to (i + 1) k ns
one_more i k [] d e h is = absurd (omega arith)
one_more zero k (n ∷ ns) d e h is = rw is refl
one_more (suc i) k (n ∷ ns) d e h is =
    let place : suc i + 1 ≡ suc (i + 1) = omega arith in
    rw place (ap (λ (ms : Wholes). (n.0, int_div n.1 k) ∷ ms) (one_more i k ns d e (omega arith) is))

pub divides_next : (i : ℕ) (by : ℤ) (ns ys : Wholes) → FitsSigned w64 by → pos 0 <ℤ by → (let e = get_or ys i (0, pos 0) in FitsSigned w64 e.1) → i < length ns → ys ≡ divided_to i (to_z w64 (of_z w64 by)) ns
    → (let e = get_or ys i (0, pos 0) in set ys i (e.0, to_z w64 (of_z w64 (int_div (to_z w64 (of_z w64 e.1)) (to_z w64 (of_z w64 by)))))) ≡ divided_to (i + 1) (to_z w64 (of_z w64 by)) ns
divides_next i by ns ys f h g lt is =
    let e : ℕ × ℤ = get_or ys i (0, pos 0) in
    let at_place : e ≡ get_or ns i (0, pos 0) = rw is (not_divided_yet i (to_z w64 (of_z w64 by)) ns (0, pos 0)) in
    rw (quot_is w64 e.1 by g f (quot_fits w64 e.1 by g h), to_z-of_z w64 by f, at_place, (rw (to_z-of_z w64 by f) at is)) (one_more i by ns (0, pos 0) _ lt refl)

pub divides_all : (i : ℕ) (by : ℤ) (ns ys : Wholes) → FitsSigned w64 by → length ns ≤ i → ys ≡ divided_to i (to_z w64 (of_z w64 by)) ns → ys ≡ quotients by ns
divides_all i by ns ys f past is = is ∙ rw (to_z-of_z w64 by f) (all_divided i by ns past)

pub first_kept : (left later : Wholes) (e : ℕ × ℤ) → AreWithin (pos (2 ^ 63 - 1)) left → left ≡ e ∷ later → to_z w64 (of_z w64 e.1) ≡ e.1
first_kept left later e w is =
    let short : AreWithin (pos (2 ^ 63 - 1)) (e ∷ later) = subst (AreWithin (pos (2 ^ 63 - 1))) is w in
    let l = short.0 in
    kept_whole e.1 (omega (arith, ints))

-- what the numbers that were looked at are not above
pub record GreatestSoFar (first : ℤ) (all : Wholes) (bound : ℤ) (left : Wholes) : Type 0 where
  pub small : AreWithin (pos (2 ^ 63 - 1)) left
  pub from : first ≤ℤ bound
  pub each : (m : ℤ) → bound ≤ℤ m → AreWithin m left → AreWithin m all

pub greatest_goes_on : (first : ℤ) (all : Wholes) (bound new : ℤ) (left later : Wholes) (e : ℕ × ℤ) → GreatestSoFar first all bound left → left ≡ e ∷ later → bound ≤ℤ new → pos (unsigned_abs e.1) ≤ℤ new → GreatestSoFar first all new later
greatest_goes_on first all bound new left later e so_far is h n =
    let small : AreWithin (pos (2 ^ 63 - 1)) (e ∷ later) = subst (AreWithin (pos (2 ^ 63 - 1))) is so_far.small in
    record {
      small = small.1;
      from = (let l = so_far.from in omega (arith, ints));
      each = λ m g rest. so_far.each m (omega (arith, ints)) (rw is (omega (arith, ints), rest));
    }

-- a vector whose numbers were all divided in place
quotients_length : (k : ℤ) (ns : Wholes) → length (quotients k ns) ≡ length ns
quotients_length k [] = refl
quotients_length k (n ∷ ns) = ap suc (quotients_length k ns)

pub divided_vector : (k : ℤ) (n : ℕ) (xs slice ys : Wholes) → slice ≡ xs → length slice ≡ n → ys ≡ quotients k slice → take n (ys ++ drop (length ys) xs) ≡ quotients k xs
divided_vector k n xs slice ys same long divided =
    let ys_is : ys ≡ quotients k xs = divided ∙ ap (quotients k) same in
    let here : length slice ≡ length xs = ap length same in
    let there : length (quotients k xs) ≡ length xs = quotients_length k xs in
    let past : length xs ≤ length (quotients k xs) = omega arith in
    rw (ys_is, drop_all (length (quotients k xs)) xs past, append-nil) (take_all n (quotients k xs) (omega arith))

-- a row over what its numbers have in common
module _ (row : ShortRow) (short : IsShort row) (k less : ℤ) (positive : pos 0 <ℤ k) (den : less *ℤ k ≡ row.den) (each_divides : AreMultiples k (map (λ e. e.1) row.numbers)) where
  pub reduced_short : IsShort (record { numbers = quotients k row.numbers; den = less; bound = row.bound })
  reduced_short =
      let p = positive_factor less k row.den positive short.positive den in
      let l = quotient_within less row.den k positive den in
      let q = short.positive in
      let w = short.den_within in
      record {
        ascends = quotients_ascend k 0 row.numbers each_divides short.ascends;
        within = quotients_within k row.bound row.numbers positive each_divides short.within;
        positive = p;
        den_within = omega (arith, ints);
        fits = short.fits;
      }

  pub reduced_same : SameValues row (record { numbers = quotients k row.numbers; den = less; bound = row.bound })
  reduced_same = record { each = λ c. rw (← den, ← exact_at k row.numbers c each_divides) (swapped (whole_at c (quotients k row.numbers)) less k) }

-- the numbers of a row have 63 bits
pub numbers_short : (row : ShortRow) → IsShort row → AreWithin (pos (2 ^ 63 - 1)) row.numbers
numbers_short row s = let f = s.fits in within_more row.bound (pos (2 ^ 63 - 1)) row.numbers s.within (omega (arith, ints))

-- a row over its number at a column
pub over_short : (row : ShortRow) (c : ℕ) → IsShort row → pos 0 <ℤ whole_at c row.numbers → IsShort (record { numbers = row.numbers; den = whole_at c row.numbers; bound = row.bound })
over_short row c s h = record {
  ascends = s.ascends;
  within = s.within;
  positive = h;
  den_within = (let w = number_within row c s in omega (arith, ints));
  fits = s.fits;
}
