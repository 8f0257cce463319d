use Rattle.std.proofs.lemmas.Int.{to_z-of_z}
use Rattle.std.specs.Int.{w128}
use Rattle.raml_num.proofs.Dividing.{positive_gcd}
use Rattle.frac128.proofs.Cancelling.{lowest_terms, nothing_common}
use Rattle.frac128.proofs.Signs.{same_value}
use Rattle.frac128.proofs.reduced.Goals as goal

-- nothing can be common
pub invariant_of-result : goal.invariant_of-result
invariant_of-result c =
    simp (to_z-of_z w128 _ c.ranges.num) (record { lowest = nothing_common _ _ c.args.shared c.requires.small c.requires.positive c.requires.fits c.requires.shared c.if-shared-eq1.true })

pub quotient-requires : goal.quotient-requires
quotient-requires c =
    let e = simp (to_z-of_z w128 _ c.ranges.num) at c.unsigned_abs-top.ensures.value in
    let i = rw e at c.gcd-divisor.ensures in
    positive_gcd _ _ _ c.requires.positive (c.requires.shared c.gcd-divisor.result i)

pub quotient-requires-2 : goal.quotient-requires-2
quotient-requires-2 c =
    let e = simp (to_z-of_z w128 _ c.ranges.num) at c.unsigned_abs-top.ensures.value in
    let i = rw e at c.gcd-divisor.ensures in
    positive_gcd _ _ _ c.requires.positive (c.requires.shared c.gcd-divisor.result i)

pub signed-requires : goal.signed-requires
signed-requires c =
    let e = simp (to_z-of_z w128 _ c.ranges.num) at c.unsigned_abs-top.ensures.value in
    let i = rw e at c.gcd-divisor.ensures in
    record { lowest = rw (c.quotient.ensures, c.quotient-2.ensures, e) (lowest_terms _ _ _ c.requires.small c.requires.positive c.requires.fits (c.requires.shared c.gcd-divisor.result i)) }

pub returns : goal.returns
returns c =
    let e = simp (to_z-of_z w128 _ c.ranges.num) at c.unsigned_abs-top.ensures.value in
    let i = rw e at c.gcd-divisor.ensures in
    let n = simp (to_z-of_z w128 _ c.ranges.num, c.quotient.ensures, e) at c.signed.ensures.num in
    let d = rw c.quotient-2.ensures at c.signed.ensures.den in
    rw (n, d) (same_value c.args.num c.args.den c.gcd-divisor.result (c.requires.shared c.gcd-divisor.result i))
