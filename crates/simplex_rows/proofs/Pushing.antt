-- A whole number after the others, as said of fractions.
use Rattle.std.proofs.Common.{◌≡◌, ◌≢◌, refl, sym, ap, subst, ◌∙◌, ℕ, ◌*◌, ◌<◌, ◌^◌, [], ◌∷◌, ◌++◌, ℤ, pos, ◌*ℤ◌, unsigned_abs, Bool, true, false, if◌then◌else◌, arith}
use Rattle.std.proofs.lemmas.Int.{ints, unsigned_abs-mul}
use Rattle.std.proofs.lemmas.Bool.Decides.{nat_tests}
use Rattle.std.proofs.lemmas.Nat.Gcd.{dvd_refl}
use Rattle.std.proofs.Math.Nat.{dvd-mul_left}
use Rattle.std.specs.Ordering.{int_eq}
use Prim.Native.Nat.{◌∣◌}
use Rattle.frac128.specs.declared.Frac.{Frac}
use Rattle.frac128.specs.Values.{numerator, denominator, IsOver}
use Rattle.simplex_rows.specs.Entries.{Entries, EndsBefore}
use Rattle.simplex_rows.specs.Merging.{put}
use Rattle.simplex_rows.specs.Over.{over}
use Rattle.simplex_rows.specs.Sweeping.{AddsWhole, SameFractions}
use Rattle.simplex_rows.specs.ShortRows.{Wholes, put_whole, fractions_over}
use Rattle.simplex_rows.proofs.Appending.{Pushed, pushed}
use Rattle.simplex_rows.proofs.ShortReads.{is_over, not_nought}

-- what is over 1 is whole
whole_parts : (n : ℤ) (x : Frac) → IsOver n 1 x → (numerator x ≡ n) × (denominator x ≡ 1)
whole_parts n x i =
    let e : unsigned_abs x.num ≡ unsigned_abs n * x.den = (let s = sym (unsigned_abs-mul x.num (pos 1)) ∙ ap unsigned_abs i ∙ unsigned_abs-mul n (pos x.den) in omega arith) in
    let D : ℕ → Type 0 = λ m. x.den ∣ m in
    let one : x.den ≡ 1 = x.lowest.coprime.common x.den (subst D (sym e) (dvd-mul_left x.den (unsigned_abs n))) (dvd_refl x.den) in
    (let i' : x.num *ℤ pos 1 ≡ n *ℤ pos 1 = rw one at i in omega (arith, ints), one)

joined : (d : ℤ) (ns ms : Wholes) → fractions_over d (ns ++ ms) ≡ fractions_over d ns ++ fractions_over d ms
joined d [] ms = refl
joined d (n ∷ ns) ms = ap (λ (es : Entries). (n.0, over n.1 d) ∷ es) (joined d ns ms)

put_too : (c : ℕ) (n : ℤ) → unsigned_abs n < 2 ^ 63 → fractions_over (pos 1) (put_whole c n []) ≡ put c (over n (pos 1)) []
put_too c n h = by (int_eq n (pos 0)) refl
  where
    x : Frac
    x = over n (pos 1)

    by : (b : Bool) → int_eq n (pos 0) ≡ b → fractions_over (pos 1) (if b then [] else (c, n) ∷ []) ≡ put c x []
    by true z =
        let p = whole_parts n x (is_over (pos 1) (omega (arith, ints)) (omega (arith, ints)) n h) in
        let zero : n ≡ pos 0 = grind (arith, nat_tests) in
        let t : int_eq (numerator x) (pos 0) ≡ true = rw (p.0, zero) refl in
        rw t refl
    by false z =
        let m : n ≢ pos 0 = (λ e. grind (arith, nat_tests)) in
        let k : numerator x ≢ pos 0 = not_nought (pos 1) (omega (arith, ints)) (omega (arith, ints)) n h m in
        let t : int_eq (numerator x) (pos 0) ≡ false = grind (arith, nat_tests) in
        rw t refl

-- what is put after the others of a row over 1
pub put_after : (c : ℕ) (n : ℤ) (ns new : Wholes) → unsigned_abs n < 2 ^ 63 → EndsBefore c (fractions_over (pos 1) ns) → new ≡ ns ++ put_whole c n [] → Pushed c (over n (pos 1)) (fractions_over (pos 1) ns) (fractions_over (pos 1) new)
put_after c n ns new h e is = rw (is, joined (pos 1) ns (put_whole c n []), put_too c n h) (pushed c (over n (pos 1)) (fractions_over (pos 1) ns) e)

pub adds_whole : (c : ℕ) (n : ℤ) (ns new : Wholes) → unsigned_abs n < 2 ^ 63 → EndsBefore c (fractions_over (pos 1) ns) → new ≡ ns ++ put_whole c n [] → AddsWhole c n (fractions_over (pos 1) ns) (fractions_over (pos 1) new)
adds_whole c n ns new h e is =
    let p = put_after c n ns new h e is in
    let w = whole_parts n (over n (pos 1)) (is_over (pos 1) (omega (arith, ints)) (omega (arith, ints)) n h) in
    record { num = p.adds.num ∙ w.0; den = p.adds.den ∙ w.1; others = λ k m. (ap numerator (p.adds.others k m), ap denominator (p.adds.others k m)) }

-- a number added to the same fractions
pub adds_to_same : (c : ℕ) (n : ℤ) (old same new : Entries) → SameFractions old same → AddsWhole c n same new → AddsWhole c n old new
adds_to_same c n old same new s a = record { num = a.num; den = a.den; others = λ k m. let o = a.others k m in let r = s k in (o.0 ∙ sym r.0, o.1 ∙ sym r.1) }
