use Rattle.std.proofs.Common.{rules, ◌≡◌, refl, ℤ, FitsSigned, ℕ, ◌*◌, ◌/◌, ◌*ℤ◌, ◌+ℤ◌, pos, ap}
use Rattle.std.proofs.lemmas.Int.{to_z-of_z}
use Rattle.std.specs.Int.{w128}
use Rattle.frac128.proofs.Sums.{is_sum, bottom_positive, shared, fits_over, fits_back}
use Rattle.frac128.proofs.Sharing.{shared_gcd}
use Rattle.frac128.proofs.Frac.sum_over_least.Goals as goal

pub returns-in_err-num-clause-fits : goal.returns-in_err-num-clause-fits
returns-in_err-num-clause-fits c m l =
    let f : FitsSigned w128 c.args.self.now.num = search rules in
    let g : FitsSigned w128 c.args.other.now.num = search rules in
    let n = simp (to_z-of_z w128 _ f, to_z-of_z w128 _ g) at c.in_err-num.ensures in
    let s = shared _ _ _ m c.args.self.now.lowest.positive c.args.other.now.lowest.positive c.gcd-divisor.ensures l in
    rw c.from_residual.ensures (λ h. absurd (cc), λ p. absurd (n (fits_back _ _ _ _ _ m s p)))

pub reduced-requires-clause-positive : goal.reduced-requires-clause-positive
reduced-requires-clause-positive c =
    let b : c.in_ok-num.den ≡ c.args.self.now.den * (c.args.other.now.den / c.gcd-divisor.result) = ap (λ (p : ℤ × ℕ). p.1) c.in_ok-num.ensures.1 in
    rw b (bottom_positive c.args.self.now.den c.args.other.now.den c.gcd-divisor.result c.args.self.now.lowest.positive c.args.other.now.lowest.positive c.gcd-divisor.ensures)

pub returns-clause-fits : goal.returns-clause-fits
returns-clause-fits c m l =
    let f : FitsSigned w128 c.args.self.now.num = search rules in
    let g : FitsSigned w128 c.args.other.now.num = search rules in
    let n = simp (to_z-of_z w128 _ f, to_z-of_z w128 _ g) at c.in_ok-num.ensures in
    let s = shared _ _ _ m c.args.self.now.lowest.positive c.args.other.now.lowest.positive c.gcd-divisor.ensures l in
    (λ h. fits_over _ _ _ _ _ m s n.0, λ p. refl)

pub returns-clause-value : goal.returns-clause-value
returns-clause-value c =
    let f : FitsSigned w128 c.args.self.now.num = search rules in
    let g : FitsSigned w128 c.args.other.now.num = search rules in
    let n = simp (to_z-of_z w128 _ f, to_z-of_z w128 _ g) at c.in_ok-num.ensures in
    let k : FitsSigned w128 c.in_ok-num.num = search rules in
    let t : c.in_ok-num.num ≡ c.args.self.now.num *ℤ pos (c.args.other.now.den / c.gcd-divisor.result) +ℤ c.args.other.now.num *ℤ pos (c.args.self.now.den / c.gcd-divisor.result) = ap (λ (p : ℤ × ℕ). p.0) n.1 in
    let b : c.in_ok-num.den ≡ c.args.self.now.den * (c.args.other.now.den / c.gcd-divisor.result) = ap (λ (p : ℤ × ℕ). p.1) n.1 in
    is_sum c.args.self.now.num c.args.self.now.den c.args.other.now.num c.args.other.now.den c.gcd-divisor.result c.reduced.result.num c.reduced.result.den c.gcd-divisor.ensures
    (simp (t, b) at (simp (to_z-of_z w128 _ k) at c.reduced.ensures))

pub reduced-requires-clause-shared : goal.reduced-requires-clause-shared
reduced-requires-clause-shared c k h =
    let f : FitsSigned w128 c.args.self.now.num = search rules in
    let g : FitsSigned w128 c.args.other.now.num = search rules in
    let n = simp (to_z-of_z w128 _ f, to_z-of_z w128 _ g) at c.in_ok-num.ensures in
    let l : FitsSigned w128 c.in_ok-num.num = search rules in
    let t : c.in_ok-num.num ≡ c.args.self.now.num *ℤ pos (c.args.other.now.den / c.gcd-divisor.result) +ℤ c.args.other.now.num *ℤ pos (c.args.self.now.den / c.gcd-divisor.result) = ap (λ (p : ℤ × ℕ). p.0) n.1 in
    let b : c.in_ok-num.den ≡ c.args.self.now.den * (c.args.other.now.den / c.gcd-divisor.result) = ap (λ (p : ℤ × ℕ). p.1) n.1 in
    let i = simp t at (simp (to_z-of_z w128 _ l) at h) in
    rw (to_z-of_z w128 _ l, t, b)
    (shared_gcd c.args.self.now.num c.args.self.now.den c.args.other.now.num c.args.other.now.den c.gcd-divisor.result k c.args.other.now.lowest.positive c.gcd-divisor.ensures c.args.self.now.lowest.coprime c.args.other.now.lowest.coprime i)
