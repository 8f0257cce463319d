-- Places for all columns of a list.
use Rattle.std.proofs.Common.{◌≡◌, ℕ, zero, suc, ◌+◌, ◌-◌, ◌<◌, ◌≤◌, ℤ, pos, arith, [], ◌∷◌, length, get_or}
use Rattle.simplex_rows.specs.ShortRows.{Wholes, AscendsFrom, WholesEndBefore}

ends_at : (b i : ℕ) (es : Wholes) (d : ℕ × ℤ) → AscendsFrom b es → suc i ≡ length es → (b ≤ (let e = get_or es i d in e.0)) × WholesEndBefore ((let e = get_or es i d in e.0) + 1) es
ends_at b i [] d a e = absurd (omega arith)
ends_at b zero ((k, x) ∷ []) d a e = (a.0, (let l : k < k + 1 = omega arith in l, tt))
ends_at b (suc i) ((k, x) ∷ []) d a e = absurd (omega arith)
ends_at b zero ((k, x) ∷ y ∷ es) d a e = absurd (omega arith)
ends_at b (suc i) ((k, x) ∷ y ∷ es) d a e =
    let rest = ends_at (suc k) i (y ∷ es) d a.2 (omega arith) in
    let l = rest.0 in
    let m = a.0 in
    (omega arith, (omega arith, rest.1))

-- they end before the place after the last one
pub last_ends : (es : Wholes) (e : ℕ × ℤ) → AscendsFrom 0 es → 0 < length es → e ≡ get_or es (length es - 1) (0, pos 0) → WholesEndBefore (e.0 + 1) es
last_ends es e a h same =
    let r = ends_at 0 (length es - 1) es (0, pos 0) a (omega arith) in
    rw same r.1
