use Rattle.std.proofs.Common.{◌<ℤ◌, ◌^◌, rules, arith, FitsSigned, pos}
use Rattle.std.proofs.lemmas.Int.{ints, to_z-of_z}
use Rattle.std.specs.Int.{w64}
use Rattle.simplex_rows.proofs.ManyPlaces.{stay_within}
use Rattle.simplex_rows.proofs.ManyCombining.{of_63_bits, tightened}
use Rattle.simplex_rows.proofs.many.ManyRow.tighten.Goals as goal

pub greatest-self-inside-requires-clause-short : goal.greatest-self-inside-requires-clause-short
greatest-self-inside-requires-clause-short c =
    let i = c.self.invariant.0 in
    rw c.deref.ensures.value (of_63_bits c.self.inside.bound c.self.inside.numbers.items i.fits (stay_within c.self.inside.numbers.items c.self.inside.den c.self.inside.bound i))

pub invariant_of-self : goal.invariant_of-self
invariant_of-self c =
    let g : FitsSigned w64 c.greatest-self-inside.result = search rules in
    let d : FitsSigned w64 c.self.inside.den = search rules in
    let e = g.sfits in
    let small : c.greatest-self-inside.result <ℤ pos (2 ^ 63) = omega (arith, ints) in
    rw (to_z-of_z w64 _ g) (
      tightened c.self.inside.numbers.items c.self.inside.den c.self.inside.bound c.greatest-self-inside.result c.self.invariant.0 (rw (to_z-of_z w64 _ d) at c.greatest-self-inside.ensures.first) (rw c.deref.ensures.value at c.greatest-self-inside.ensures.within) small,
      c.self.invariant.1,
    )
