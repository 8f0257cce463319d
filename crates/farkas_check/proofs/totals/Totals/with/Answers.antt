use Rattle.std.proofs.Common.{◌≡◌, ◌+ℤ◌, pos, FitsSigned, arith, false, ℤ, refl, rules}
use Rattle.std.proofs.lemmas.Int.{ints, to_z-of_z}
use Rattle.std.specs.Int.{w128}
use lib.Signed.{lt_z}
use Rattle.farkas_check.specs.Totals.{gain, loss}
use Rattle.farkas_check.proofs.Splitting.{gain_of}
use Rattle.farkas_check.proofs.totals.Totals.with.Goals as goal

-- a product that is not negative counts up
counts_up : (u d t n : ℤ) → lt_z t (pos 0) ≡ false → n ≡ u +ℤ t → (n ≡ u +ℤ (gain t +ℤ pos 0)) × (d ≡ d +ℤ (loss t +ℤ pos 0))
counts_up u d t n g e = let r = gain_of t (omega (arith, ints)) in omega (arith, ints)

pub returns-in_ok-positive : goal.returns-in_ok-positive
returns-in_ok-positive c =
    let p = simp (to_z-of_z w128 _ c.ranges.a, to_z-of_z w128 _ c.ranges.b) at c.in_ok-product.ensures in
    let f : FitsSigned w128 c.args.self.positive = search rules in
    let h : FitsSigned w128 c.args.self.negative = search rules in
    let q = simp (to_z-of_z w128 _ f, p.1, to_z-of_z w128 _ p.0) at c.in_ok-positive.ensures in
    let t = simp (p.1, to_z-of_z w128 _ p.0) at c.if-product-lt0.false in
    simp (to_z-of_z w128 _ h, q.1, to_z-of_z w128 _ q.0) (counts_up c.args.self.positive c.args.self.negative _ _ t refl)
