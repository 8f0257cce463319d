use Rattle.std.proofs.Common.{◌≡◌, ap, ◌∙◌, FitsSigned, w64, pos, ◌*ℤ◌, ◌+ℤ◌, unsigned_abs, to_z, of_z, ◌<◌, ◌^◌, arith}
use Rattle.std.specs.Int.{w128}
use Rattle.std.proofs.lemmas.Int.{ints, to_z-of_z, fits_signed_from_abs}
use Rattle.raml_num.proofs.Signed.{none_mul}
use Rattle.simplex_rows.proofs.Sharing.{made, made_fits, made_kept, positive_size, any_size, size_size}
use Rattle.simplex_rows.proofs.factors.bounded.Goals as goal
use Rattle.simplex_rows.proofs.factors.bounded.Goals.{After-from-4, Then-greatest-from}

-- the numbers, as the code keeps them
record Kept (c : After-from-4) : Type 0 where
  own : c.from.result ≡ c.args.own
  bound : c.from-2.result ≡ c.args.bound
  times : c.from-3.result ≡ pos (unsigned_abs c.args.times)
  lead : c.from-4.result ≡ c.args.lead_bound

kept : (c : After-from-4) → Kept c
kept c = record {
  own = c.from.ensures ∙ to_z-of_z w64 _ c.ranges.own;
  bound = c.from-2.ensures ∙ to_z-of_z w64 _ c.ranges.bound;
  times = c.from-3.ensures ∙ ap pos (c.unsigned_abs.ensures.value ∙ ap unsigned_abs (to_z-of_z w64 _ c.ranges.times));
  lead = c.from-4.ensures ∙ to_z-of_z w64 _ c.ranges.lead_bound;
}

pub overflow_add-greatest : goal.overflow_add-greatest
overflow_add-greatest c =
    let k = kept c in
    rw (k.own, k.bound, k.times, k.lead) (made_fits c.args.own c.args.bound (pos (unsigned_abs c.args.times)) c.args.lead_bound (positive_size c.args.own c.ranges.own c.requires.own) (any_size c.args.bound c.ranges.bound) (size_size c.args.times c.ranges.times) (any_size c.args.lead_bound c.ranges.lead_bound))

-- the sum, as the code keeps it
sum_kept : (c : After-from-4) → to_z w128 (of_z w128 (made c.from.result c.from-2.result c.from-3.result c.from-4.result)) ≡ c.args.own *ℤ c.args.bound +ℤ pos (unsigned_abs c.args.times) *ℤ c.args.lead_bound
sum_kept c =
    let k = kept c in
    rw (k.own, k.bound, k.times, k.lead) (made_kept c.args.own c.args.bound (pos (unsigned_abs c.args.times)) c.args.lead_bound (positive_size c.args.own c.ranges.own c.requires.own) (any_size c.args.bound c.ranges.bound) (size_size c.args.times c.ranges.times) (any_size c.args.lead_bound c.ranges.lead_bound))

-- it is not negative, and passes the test
sum_small : (c : Then-greatest-from) → unsigned_abs (c.args.own *ℤ c.args.bound +ℤ pos (unsigned_abs c.args.times) *ℤ c.args.lead_bound) < 2 ^ 63
sum_small c =
    let first = none_mul c.args.own c.args.bound (let p = c.requires.own in omega (arith, ints)) c.requires.bound in
    let second = none_mul (pos (unsigned_abs c.args.times)) c.args.lead_bound (omega (arith, ints)) c.requires.lead in
    let greatest : FitsSigned w128 c.from-5.result = record { sfits = c.from-5.type_inv } in
    let test = rw (sum_kept c.before.before, to_z-of_z w128 _ greatest, c.from-5.ensures) at c.if-greatest-from.true in
    omega (arith, ints)

sum_fits : (c : Then-greatest-from) → FitsSigned w64 (c.args.own *ℤ c.args.bound +ℤ pos (unsigned_abs c.args.times) *ℤ c.args.lead_bound)
sum_fits c = fits_signed_from_abs w64 _ (sum_small c)

pub overflow_cast-result : goal.overflow_cast-result
overflow_cast-result c = rw (sum_kept c.before.before) (sum_fits c)

pub returns-then-greatest-from-clause-bound : goal.returns-then-greatest-from-clause-bound
returns-then-greatest-from-clause-bound c = rw (sum_kept c.before.before, to_z-of_z w64 _ (sum_fits c)) (omega (arith, ints))
