use Rattle.std.proofs.Common.{arith, pos, w64, ◌+ℤ◌, ◌*ℤ◌, ◌<ℤ◌, ◌≤ℤ◌, ◌^◌, unsigned_abs}
use Rattle.std.proofs.lemmas.Int.{ints, to_z-of_z, fits_signed_from_abs}
use lib.IntN.{*ℤ_comm}
use Rattle.simplex_rows.specs.ShortRows.{IsCombined}
use Rattle.simplex_rows.proofs.Wholes.{short_den_kept}
use Rattle.simplex_rows.proofs.FewCombining.{can_combine, den_positive, den_within, den_kept, combined_short}
use Rattle.simplex_rows.proofs.few.FewRow.combine.Goals as goal

pub put_combined-requires-clause-fits : goal.put_combined-requires-clause-fits
put_combined-requires-clause-fits c =
    let fits : c.args.bound <ℤ pos (2 ^ 63) = omega (arith, ints, c.ranges.bound.sfits) in
    let within : (c.args.p *ℤ c.self.inside.bound +ℤ pos (unsigned_abs c.args.q) *ℤ c.lead.inside.bound) ≤ℤ c.args.bound = rw (← c.self.view_is, ← c.lead.view_is) at c.requires.fits in
    rw (to_z-of_z w64 _ c.ranges.p, to_z-of_z w64 _ c.ranges.q, c.deref.ensures.value, c.deref-2.ensures.value)
    (can_combine c.args.p c.args.q c.args.bound _ _ c.self.invariant c.lead.invariant c.requires.positive within fits)

pub overflow_mul-self : goal.overflow_mul-self
overflow_mul-self c =
    let fits : c.args.bound <ℤ pos (2 ^ 63) = omega (arith, ints, c.ranges.bound.sfits) in
    let within : (c.args.p *ℤ c.self.inside.bound +ℤ pos (unsigned_abs c.args.q) *ℤ c.lead.inside.bound) ≤ℤ c.args.bound = rw (← c.self.view_is, ← c.lead.view_is) at c.requires.fits in
    let positive = den_positive c.args.p c.args.q c.args.bound _ _ c.self.invariant c.lead.invariant c.requires.positive within fits in
    let small = den_within c.args.p c.args.q c.args.bound _ _ c.self.invariant c.lead.invariant c.requires.positive within fits in
    rw (to_z-of_z w64 _ c.ranges.p, short_den_kept _ c.self.invariant, *ℤ_comm c.self.inside.den c.args.p) (fits_signed_from_abs w64 (c.args.p *ℤ c.self.inside.den) (omega (arith, ints)))

pub invariant_of-self : goal.invariant_of-self
invariant_of-self c =
    let fits : c.args.bound <ℤ pos (2 ^ 63) = omega (arith, ints, c.ranges.bound.sfits) in
    let within : (c.args.p *ℤ c.self.inside.bound +ℤ pos (unsigned_abs c.args.q) *ℤ c.lead.inside.bound) ≤ℤ c.args.bound = rw (← c.self.view_is, ← c.lead.view_is) at c.requires.fits in
    let combined : IsCombined c.args.p c.args.q c.lead.inside.entries.items c.self.inside.entries.items c.put_combined.new.made.items =
    rw (to_z-of_z w64 _ c.ranges.p, to_z-of_z w64 _ c.ranges.q, c.deref.ensures.value, c.deref-2.ensures.value) at c.in_ok-put_combined.ensures.combined in
    rw (to_z-of_z w64 _ c.ranges.p, to_z-of_z w64 _ c.ranges.bound, short_den_kept _ c.self.invariant, *ℤ_comm c.self.inside.den c.args.p, den_kept c.args.p c.args.q c.args.bound _ _ c.self.invariant c.lead.invariant c.requires.positive within fits, c.swap.ensures.x_after)
    (combined_short c.args.p c.args.q c.args.bound _ _ c.self.invariant c.lead.invariant c.requires.positive within fits c.put_combined.new.made.items combined c.in_ok-put_combined.ensures.ascends)

pub returns-clause-den : goal.returns-clause-den
returns-clause-den c =
    let fits : c.args.bound <ℤ pos (2 ^ 63) = omega (arith, ints, c.ranges.bound.sfits) in
    let within : (c.args.p *ℤ c.self.inside.bound +ℤ pos (unsigned_abs c.args.q) *ℤ c.lead.inside.bound) ≤ℤ c.args.bound = rw (← c.self.view_is, ← c.lead.view_is) at c.requires.fits in
    rw (to_z-of_z w64 _ c.ranges.p, short_den_kept _ c.self.invariant, *ℤ_comm c.self.inside.den c.args.p, ← c.self.view_is) (den_kept c.args.p c.args.q c.args.bound _ _ c.self.invariant c.lead.invariant c.requires.positive within fits)

pub returns-clause-short : goal.returns-clause-short
returns-clause-short c = invariant_of-self c
