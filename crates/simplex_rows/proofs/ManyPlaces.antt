-- A list of numbers in their places, as a row.
use Rattle.std.proofs.Common.{◌≡◌, ◌≢◌, refl, sym, subst, ◌∙◌, ℕ, zero, suc, ◌+◌, ◌≤◌, ◌^◌, ℤ, pos, ◌<ℤ◌, ◌≤ℤ◌, unsigned_abs, arith, List, [], ◌∷◌, Bool, true, false, ◌==◌, if◌then◌else◌}
use Rattle.std.proofs.lemmas.Int.{ints}
use Rattle.std.proofs.lemmas.Bool.Decides.{nat_tests, Decides-int_eq, not_from_Decides}
use Rattle.std.specs.Ordering.{int_eq}
use Rattle.simplex_rows.specs.ShortRows.{Wholes, whole_at, AscendsFrom, AreWithin, IsShort, put_whole, listed_from}
use Rattle.simplex_rows.specs.Placed.{placed, StayWithin}
use Rattle.simplex_rows.proofs.Wholes.{ascends_sooner, none_before, at_within}

-- a number that is put, by cases
pub by_zero : {P : Type 0} (n : ℤ) → (n ≡ pos 0 → int_eq n (pos 0) ≡ true → P) → (n ≢ pos 0 → int_eq n (pos 0) ≡ false → P) → P
by_zero {P} n z f = by (int_eq n (pos 0)) refl
  where
    by : (b : Bool) → int_eq n (pos 0) ≡ b → P
    by true e = let d = Decides-int_eq n (pos 0) in z (d.0 e) e
    by false e = let d = Decides-int_eq n (pos 0) in f (not_from_Decides (int_eq n (pos 0)) d e) e

pub put_there : (c k : ℕ) (n : ℤ) (ns : Wholes) → k ≢ c → whole_at c (put_whole k n ns) ≡ whole_at c ns
put_there c k n ns h = by (int_eq n (pos 0))
  where
    by : (b : Bool) → whole_at c (if b then ns else (k, n) ∷ ns) ≡ whole_at c ns
    by true = refl
    by false = let t : (k == c) ≡ false = grind (arith, nat_tests) in rw t refl

pub put_here : (c : ℕ) (n : ℤ) (ns : Wholes) → whole_at c ns ≡ pos 0 → whole_at c (put_whole c n ns) ≡ n
put_here c n ns h = by_zero n
    (λ z t. rw t (h ∙ sym z))
    (λ f t. let s : (c == c) ≡ true = grind (arith, nat_tests) in rw (t, s) refl)

pub listed_ascends : (b : ℕ) (ns : List ℤ) → AscendsFrom b (listed_from b ns)
listed_ascends b [] = tt
listed_ascends b (n ∷ ns) = by_zero n
    (λ z t. rw t (ascends_sooner b (suc b) (listed_from (suc b) ns) (omega arith) (listed_ascends (suc b) ns)))
    (λ f t. rw t ((let m : b ≤ b = omega arith in m), f, listed_ascends (suc b) ns))

listed_at : (b c : ℕ) (ns : List ℤ) → whole_at (b + c) (listed_from b ns) ≡ placed ns c
listed_at b c [] = nothing c
  where
    nothing : (c : ℕ) → pos 0 ≡ placed [] c
    nothing zero = refl
    nothing (suc c) = refl
listed_at b zero (n ∷ ns) =
    let e : b ≡ b + 0 = omega arith in
    subst (λ (k : ℕ). whole_at k (listed_from b (n ∷ ns)) ≡ n) e (put_here b n (listed_from (suc b) ns) (none_before (suc b) b (listed_from (suc b) ns) (listed_ascends (suc b) ns) (omega arith)))
listed_at b (suc c) (n ∷ ns) =
    let e : suc b + c ≡ b + suc c = omega arith in
    put_there (b + suc c) b n (listed_from (suc b) ns) (λ s. omega arith) ∙ subst (λ (k : ℕ). whole_at k (listed_from (suc b) ns) ≡ placed ns c) e (listed_at (suc b) c ns)

pub at_listed : (c : ℕ) (ns : List ℤ) → whole_at c (listed_from 0 ns) ≡ placed ns c
at_listed c ns = let e : 0 + c ≡ c = omega arith in subst (λ (k : ℕ). whole_at k (listed_from 0 ns) ≡ placed ns c) e (listed_at 0 c ns)

-- bounds, both ways
pub listed_within : (b : ℤ) (k : ℕ) (ns : List ℤ) → StayWithin b ns → AreWithin b (listed_from k ns)
listed_within b k [] h = tt
listed_within b k (n ∷ ns) h =
    let rest = listed_within b (suc k) ns (record { each = λ c. h.each (suc c) }) in
    by_zero n (λ z t. rw t rest) (λ f t. rw t (h.each 0, rest))

pub stay_within : (ns : List ℤ) (d b : ℤ) → IsShort (record { numbers = listed_from 0 ns; den = d; bound = b }) → StayWithin b ns
stay_within ns d b h = record { each = λ c. subst (λ (n : ℤ). pos (unsigned_abs n) ≤ℤ b) (at_listed c ns) (at_within b (listed_from 0 ns) c (let p = h.positive in let q = h.den_within in omega (arith, ints)) h.within) }

pub short_of : (ns : List ℤ) (d b : ℤ) → StayWithin b ns → pos 0 <ℤ d → d ≤ℤ b → b <ℤ pos (2 ^ 63) → IsShort (record { numbers = listed_from 0 ns; den = d; bound = b })
short_of ns d b h p l f = record { ascends = listed_ascends 0 ns; within = listed_within b 0 ns h; positive = p; den_within = l; fits = f }
