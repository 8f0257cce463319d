-- A whole number after the others.
use Rattle.std.proofs.Common.{◌≡◌, ◌≢◌, refl, ℕ, suc, ◌≤◌, [], ◌∷◌, ◌++◌, arith, ℤ, pos, ◌<ℤ◌, ◌≤ℤ◌, unsigned_abs, ◌^◌, false}
use Rattle.std.proofs.lemmas.Int.{ints}
use Rattle.std.specs.Ordering.{int_eq}
use Rattle.std.proofs.lemmas.Bool.Decides.{nat_tests}
use Rattle.simplex_rows.specs.ShortRows.{Wholes, ShortRow, IsShort, AscendsFrom, AreWithin, WholesEndBefore, put_whole}
use Rattle.simplex_rows.proofs.Wholes.{ascends_sooner, within_more}

-- rows one after the other
pub ascend_on : (b c : ℕ) (es rest : Wholes) → AscendsFrom b es → WholesEndBefore c es → b ≤ c → AscendsFrom c rest → AscendsFrom b (es ++ rest)
ascend_on b c [] rest s e l r = ascends_sooner b c rest l r
ascend_on b c (d ∷ es) rest s e l r = (s.0, s.1, ascend_on (suc d.0) c es rest s.2 e.1 (let h = e.0 in omega arith) r)

pub end_both : (c : ℕ) (es rest : Wholes) → WholesEndBefore c es → WholesEndBefore c rest → WholesEndBefore c (es ++ rest)
end_both c [] rest e r = r
end_both c (d ∷ es) rest e r = (e.0, end_both c es rest e.1 r)

pub within_both : (b : ℤ) (es rest : Wholes) → AreWithin b es → AreWithin b rest → AreWithin b (es ++ rest)
within_both b [] rest w r = r
within_both b (d ∷ es) rest w r = (w.0, within_both b es rest w.1 r)

-- what a number is that is put
pub put_some : (c : ℕ) (n : ℤ) (es : Wholes) → n ≢ pos 0 → put_whole c n es ≡ (c, n) ∷ es
put_some c n es z = let t : int_eq n (pos 0) ≡ false = grind (arith, nat_tests) in rw t refl

-- a row with one more number
pub pushed_short : (row : ShortRow) (c : ℕ) (n m : ℤ) → IsShort row → WholesEndBefore c row.numbers → n ≢ pos 0 → row.bound ≤ℤ m → pos (unsigned_abs n) ≤ℤ m → m <ℤ pos (2 ^ 63)
    → IsShort (record { numbers = row.numbers ++ (c, n) ∷ []; den = row.den; bound = m })
pushed_short row c n m s e z b a f = record {
  ascends = ascend_on 0 c row.numbers ((c, n) ∷ []) s.ascends e (omega arith) (omega arith, z, tt);
  within = within_both m row.numbers ((c, n) ∷ []) (within_more row.bound m row.numbers s.within b) (a, tt);
  positive = s.positive;
  den_within = (let d = s.den_within in omega (arith, ints));
  fits = f;
}
