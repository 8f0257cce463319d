-- Whole numbers of a row, column by column.
use Rattle.std.proofs.Common.{◌≡◌, ◌≢◌, refl, ℕ, suc, ◌+◌, ◌*◌, ◌<◌, ◌≤◌, ◌⊎◌, [], ◌∷◌, arith, negsuc, ℤ, pos, ◌<ℤ◌, ◌≤ℤ◌, ◌-ℤ◌, ◌*ℤ◌, unsigned_abs, ◌^◌, to_z, of_z, w64, Bool, true, false, ◌==◌, if◌then◌else◌}
use Rattle.std.proofs.Math.Nat.{mul-pos}
use Rattle.std.proofs.lemmas.Int.{ints, to_z-of_z, fits_signed_from_abs}
use Rattle.std.proofs.lemmas.Bool.Decides.{nat_tests}
use Rattle.simplex_rows.specs.ShortRows.{Wholes, ShortRow, IsShort, whole_at, AscendsFrom, AreWithin, WholesEndBefore}

pub same_or_not : (a b : ℕ) → (a ≡ b) ⊎ (a ≢ b)
same_or_not a b = grind (arith, nat_tests)

pub before_or_from : (m n : ℕ) → (m < n) ⊎ (n ≤ m)
before_or_from m n = grind arith

pub earlier_or_here : (c k : ℕ) → c < k + 1 → (c < k) ⊎ (c ≡ k)
earlier_or_here c k l = grind arith

pub ascends_sooner : (a b : ℕ) (ns : Wholes) → a ≤ b → AscendsFrom b ns → AscendsFrom a ns
ascends_sooner a b [] l h = tt
ascends_sooner a b ((k, n) ∷ ns) l h = (let m = h.0 in omega arith, h.1, h.2)

pub end_up_to : (c k : ℕ) (es : Wholes) → WholesEndBefore c es → c ≤ k → WholesEndBefore k es
end_up_to c k [] e h = tt
end_up_to c k (d ∷ es) e h = (let l = e.0 in omega arith, end_up_to c k es e.1 h)

pub within_more : (b d : ℤ) (es : Wholes) → AreWithin b es → b ≤ℤ d → AreWithin d es
within_more b d [] w h = tt
within_more b d (e ∷ es) w h = (let l = w.0 in grind (arith, ints), within_more b d es w.1 h)

-- where a row has nothing
pub none_before : (b c : ℕ) (es : Wholes) → AscendsFrom b es → c < b → whole_at c es ≡ pos 0
none_before b c [] s h = refl
none_before b c (e ∷ es) s h =
    let l = s.0 in
    let t : (e.0 == c) ≡ false = grind (arith, nat_tests) in
    rw t (none_before (suc e.0) c es s.2 (omega arith))

-- a number of 63 bits, as the code keeps it
pub kept_whole : (n : ℤ) → unsigned_abs n < 2 ^ 63 → to_z w64 (of_z w64 n) ≡ n
kept_whole n h = to_z-of_z w64 n (fits_signed_from_abs w64 n h)

pub at_within : (b : ℤ) (es : Wholes) (c : ℕ) → pos 0 ≤ℤ b → AreWithin b es → pos (unsigned_abs (whole_at c es)) ≤ℤ b
at_within b [] c h w = h
at_within b ((k, n) ∷ es) c h w = by (k == c) (at_within b es c h w.1)
  where
    by : (t : Bool) → pos (unsigned_abs (whole_at c es)) ≤ℤ b → pos (unsigned_abs (if t then n else whole_at c es)) ≤ℤ b
    by true l = w.0
    by false l = l

-- no number of a row is longer than its bound
pub number_within : (row : ShortRow) (c : ℕ) → IsShort row → pos (unsigned_abs (whole_at c row.numbers)) ≤ℤ row.bound
number_within row c s = let p = s.positive in let d = s.den_within in at_within row.bound row.numbers c (omega (arith, ints)) s.within

pub number_kept : (row : ShortRow) (c : ℕ) → IsShort row → to_z w64 (of_z w64 (whole_at c row.numbers)) ≡ whole_at c row.numbers
number_kept row c s = let w = number_within row c s in let f = s.fits in kept_whole (whole_at c row.numbers) (omega (arith, ints))

-- the denominator, as the code keeps it
pub short_den_kept : (row : ShortRow) → IsShort row → to_z w64 (of_z w64 row.den) ≡ row.den
short_den_kept row s =
    let p = s.positive in
    let d = s.den_within in
    let f = s.fits in
    kept_whole row.den (omega (arith, ints))

-- products and differences
pub product_positive : (a b : ℤ) → pos 0 <ℤ a → pos 0 <ℤ b → pos 0 <ℤ (a *ℤ b)
product_positive (negsuc a) b h k = absurd (omega (arith, ints))
product_positive (pos a) (negsuc b) h k = absurd (omega (arith, ints))
product_positive (pos a) (pos b) h k = let m : 0 < a * b = mul-pos (omega (arith, ints)) (omega (arith, ints)) in omega (arith, ints)

pub difference_within : (a b : ℤ) (m : ℤ) → pos (unsigned_abs a + unsigned_abs b) ≤ℤ m → pos (unsigned_abs (a -ℤ b)) ≤ℤ m
difference_within a b m h = grind (arith, ints)
