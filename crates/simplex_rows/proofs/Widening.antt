-- Whole numbers over one denominator, put one by one into a row of fractions.
use Rattle.std.proofs.Common.{◌≡◌, ◌≢◌, refl, sym, ap, subst, unsigned_abs, ℕ, zero, suc, ◌+◌, ◌<◌, ◌≤◌, [], ◌∷◌, length, take, ℤ, pos, ◌*ℤ◌, true, false, ◌==◌, if◌then◌else◌, inl, inr, FitsSigned, arith}
use Rattle.std.proofs.lemmas.Int.{ints}
use Rattle.std.proofs.lemmas.Bool.Decides.{nat_tests}
use Rattle.std.proofs.lemmas.List.{take_all}
use Rattle.std.specs.Int.{w64}
use Rattle.frac128.specs.declared.Frac.{Frac}
use Rattle.frac128.specs.Values.{numerator, denominator, IsOver}
use Rattle.simplex_rows.specs.Entries.{Entries, at, EndsBefore, Adds}
use Rattle.simplex_rows.specs.Sweeping.{SameFractions}
use Rattle.simplex_rows.specs.ShortRows.{Wholes, whole_at, AscendsFrom, WholesEndBefore, ShortRow, IsShort, fractions_of}
use Rattle.simplex_rows.proofs.Wholes.{same_or_not}
use Rattle.simplex_rows.proofs.ShortReads.{row_reads, den_positive, den_is, ends_before}
use Rattle.simplex_rows.proofs.ShortTells.{parts_same, number_fits}
use Rattle.simplex_rows.proofs.FewFinding.{columns_from, entry_column, entry_number, present}

more_here : (b : ℕ) (es : Wholes) (i : ℕ) → AscendsFrom b es → i < length es → whole_at (entry_column es i) (take (suc i) es) ≡ entry_number es i
more_here b [] i s h = absurd (omega arith)
more_here b (e ∷ es) zero s h = let t : (e.0 == e.0) ≡ true = grind (arith, nat_tests) in rw t refl
more_here b (e ∷ es) (suc i) s h =
    let m = columns_from (suc e.0) es i s.2 (omega arith) in
    let t : (e.0 == entry_column es i) ≡ false = grind (arith, nat_tests) in
    rw t (more_here (suc e.0) es i s.2 (omega arith))

more_there : (es : Wholes) (i c : ℕ) → i < length es → c ≢ entry_column es i → whole_at c (take (suc i) es) ≡ whole_at c (take i es)
more_there [] i c h n = absurd (omega arith)
more_there (e ∷ es) zero c h n = let t : (e.0 == c) ≡ false = grind (arith, nat_tests) in rw t refl
more_there (e ∷ es) (suc i) c h n = ap (λ (m : ℤ). if e.0 == c then e.1 else m) (more_there es i c (omega arith) n)

-- the columns before a place
taken_before : (b : ℕ) (es : Wholes) (i : ℕ) → AscendsFrom b es → i < length es → WholesEndBefore (entry_column es i) (take i es)
taken_before b [] i s h = absurd (omega arith)
taken_before b (e ∷ es) zero s h = tt
taken_before b (e ∷ es) (suc i) s h = (let m = columns_from (suc e.0) es i s.2 (omega arith) in omega arith, taken_before (suc e.0) es i s.2 (omega arith))

last_before : (es : Wholes) (i c : ℕ) → i < length es → WholesEndBefore c (take (suc i) es) → entry_column es i < c
last_before [] i c h e = absurd (omega arith)
last_before (d ∷ es) zero c h e = e.0
last_before (d ∷ es) (suc i) c h e = last_before es i c (omega arith) e.1

-- the first i numbers are in the row of fractions
pub record Widening (d i : ℕ) (es : Wholes) (wide : Entries) : Type 0 where
  pub each : (c : ℕ) → IsOver (whole_at c (take i es)) d (at c wide)
  pub before : (c : ℕ) → WholesEndBefore c (take i es) → EndsBefore c wide

pub widens_none : (d : ℕ) (es : Wholes) → Widening d 0 es []
widens_none d es = record { each = λ c. omega (arith, ints); before = λ c e. tt }

pub next_before : (d i : ℕ) (es : Wholes) (wide : Entries) → AscendsFrom 0 es → i < length es → Widening d i es wide → EndsBefore (entry_column es i) wide
next_before d i es wide s h w = w.before (entry_column es i) (taken_before 0 es i s h)

pub widens_next : (d i : ℕ) (es : Wholes) (wide new : Entries) (x : Frac) → AscendsFrom 0 es → i < length es → Widening d i es wide → IsOver (entry_number es i) d x → Adds (entry_column es i) x wide new
    → ((c : ℕ) → entry_column es i < c → EndsBefore c new) → Widening d (i + 1) es new
widens_next d i es wide new x s h w o a b = let next : suc i ≡ i + 1 = omega arith in subst (λ (j : ℕ). Widening d j es new) next (record {
  each = λ c. elim (same_or_not c (entry_column es i)) [
    | inl e ↦ subst (λ (k : ℕ). IsOver (whole_at k (take (suc i) es)) d (at k new)) (sym e) (rw (more_here 0 es i s h, a.num, a.den) o)
    | inr n ↦ rw (more_there es i c h n, a.others c n) (w.each c)
  ];
  before = λ c e. b c (last_before es i c h e);
})

pub widens_all : (row : ShortRow) (i : ℕ) (wide : Entries) → IsShort row → length row.numbers ≤ i → Widening (unsigned_abs row.den) i row.numbers wide → SameFractions (fractions_of row) wide
widens_all row i wide is h w c =
    parts_same (whole_at c row.numbers) (unsigned_abs row.den) (at c (fractions_of row)) (at c wide) (den_positive row is) (row_reads row is c)
    (subst (λ (es : Wholes). IsOver (whole_at c es) (unsigned_abs row.den) (at c wide)) (take_all i row.numbers h) (w.each c))

-- a number, as the code reads it
pub entry_fits : (row : ShortRow) (i : ℕ) → IsShort row → i < length row.numbers → FitsSigned w64 (entry_number row.numbers i)
entry_fits row i is h = subst (FitsSigned w64) (present 0 row.numbers i is.ascends h) (number_fits row is (entry_column row.numbers i))

pub entry_over : (row : ShortRow) (i : ℕ) (x : Frac) → IsShort row → numerator x *ℤ row.den ≡ entry_number row.numbers i *ℤ pos (denominator x) → IsOver (entry_number row.numbers i) (unsigned_abs row.den) x
entry_over row i x is e = subst (λ (z : ℤ). numerator x *ℤ z ≡ entry_number row.numbers i *ℤ pos (denominator x)) (sym (den_is row is)) e

pub all_before : (d i c : ℕ) (row : ShortRow) (wide : Entries) → length row.numbers ≤ i → Widening d i row.numbers wide → EndsBefore c (fractions_of row) → EndsBefore c wide
all_before d i c row wide h w e = w.before c (subst (WholesEndBefore c) (sym (take_all i row.numbers h)) (ends_before c row.den row.numbers e))
