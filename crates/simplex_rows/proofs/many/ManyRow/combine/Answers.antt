use Rattle.std.proofs.Common.{◌≡◌, to_z, of_z, rules, arith, FitsSigned, ◌*ℤ◌, length, take, drop, ◌++◌}
use Rattle.std.proofs.lemmas.Int.{to_z-of_z}
use Rattle.std.specs.Int.{w64}
use Rattle.simplex_rows.specs.Placed.{AreMultiplied, AreLessened}
use Rattle.simplex_rows.proofs.ManyCombining.{written_back_whole, kept_short, Ready, ready, products_fit, differences_fit, den_fits, combined_short, is_combined}
use Rattle.simplex_rows.proofs.many.ManyRow.combine.Goals as goal

pub invariant_of-self : goal.invariant_of-self
invariant_of-self c = (kept_short c.self.inside.numbers.items c.reach.new.numbers.items c.self.inside.den c.self.inside.bound c.self.invariant.0 c.in_err-reach.ensures.kept, c.in_err-reach.ensures.most)

pub multiply-requires : goal.multiply-requires
multiply-requires c =
    let p : FitsSigned w64 c.args.p = search rules in
    let r = ready c.args.p c.args.q c.args.bound c.self.inside.numbers.items c.self.inside.den c.self.inside.bound c.args.self.now c.args.lead.now c.reach.new.numbers.items c.self.view_is c.requires.positive c.requires.fits c.ranges.bound c.self.invariant.0 c.entries.ensures.short c.in_ok-reach.ensures.kept in
    rw (to_z-of_z w64 _ p, c.deref_mut.ensures.value) (products_fit c.args.p c.args.q c.args.bound c.self.inside.numbers.items c.self.inside.den c.self.inside.bound c.args.lead.now c.reach.new.numbers.items r)

pub lessen-requires-clause-fit : goal.lessen-requires-clause-fit
lessen-requires-clause-fit c =
    let p : FitsSigned w64 c.args.p = search rules in
    let q : FitsSigned w64 c.args.q = search rules in
    let r = ready c.args.p c.args.q c.args.bound c.self.inside.numbers.items c.self.inside.den c.self.inside.bound c.args.self.now c.args.lead.now c.reach.new.numbers.items c.self.view_is c.requires.positive c.requires.fits c.ranges.bound c.self.invariant.0 c.entries.ensures.short c.in_ok-reach.ensures.kept in
    let m : AreMultiplied c.args.p c.reach.new.numbers.items c.multiply.new.numbers = rw (to_z-of_z w64 _ p, c.deref_mut.ensures.value) at c.multiply.ensures in
    let back = written_back_whole c.reach.new.numbers.len c.reach.new.numbers.items c.multiply.new.numbers (omega arith) m.count in
    rw (to_z-of_z w64 _ q, c.deref_mut-2.ensures.value, back, c.entries-2.ensures.all) (differences_fit c.args.p c.args.q c.args.bound c.self.inside.numbers.items c.self.inside.den c.self.inside.bound c.args.lead.now c.reach.new.numbers.items r c.multiply.new.numbers m)

pub overflow_mul-self : goal.overflow_mul-self
overflow_mul-self c =
    let p : FitsSigned w64 c.args.p = search rules in
    let d : FitsSigned w64 c.self.inside.den = search rules in
    let r = ready c.args.p c.args.q c.args.bound c.self.inside.numbers.items c.self.inside.den c.self.inside.bound c.args.self.now c.args.lead.now c.reach.new.numbers.items c.self.view_is c.requires.positive c.requires.fits c.ranges.bound c.self.invariant.0 c.entries.ensures.short c.in_ok-reach.ensures.kept in
    rw (to_z-of_z w64 _ p, to_z-of_z w64 _ d) (den_fits c.args.p c.args.q c.args.bound c.self.inside.numbers.items c.self.inside.den c.self.inside.bound c.args.lead.now c.reach.new.numbers.items r)

-- at the end
module _ (c : goal.After-self-5-1) where
  is_ready : Ready c.args.p c.args.q c.args.bound c.self.inside.numbers.items c.self.inside.den c.self.inside.bound c.args.lead.now c.reach.new.numbers.items
  is_ready = ready c.args.p c.args.q c.args.bound c.self.inside.numbers.items c.self.inside.den c.self.inside.bound c.args.self.now c.args.lead.now c.reach.new.numbers.items c.self.view_is c.requires.positive c.requires.fits c.ranges.bound c.self.invariant.0 c.entries.ensures.short c.in_ok-reach.ensures.kept

  multiplied : AreMultiplied c.args.p c.reach.new.numbers.items c.multiply.new.numbers
  multiplied = let p : FitsSigned w64 c.args.p = search rules in rw (to_z-of_z w64 _ p, c.deref_mut.ensures.value) at c.multiply.ensures

  back : take c.reach.new.numbers.len (c.multiply.new.numbers ++ drop (length c.multiply.new.numbers) c.reach.new.numbers.items) ≡ c.multiply.new.numbers
  back = written_back_whole c.reach.new.numbers.len c.reach.new.numbers.items c.multiply.new.numbers (omega arith) multiplied.count

  lessened : AreLessened c.args.q c.args.lead.now.numbers c.multiply.new.numbers c.lessen.new.numbers
  lessened = let q : FitsSigned w64 c.args.q = search rules in rw (to_z-of_z w64 _ q, c.deref_mut-2.ensures.value, back, c.entries-2.ensures.all) at c.lessen.ensures

  back_twice : take c.reach.new.numbers.len (c.lessen.new.numbers ++ drop (length c.lessen.new.numbers) (take c.reach.new.numbers.len (c.multiply.new.numbers ++ drop (length c.multiply.new.numbers) c.reach.new.numbers.items))) ≡ c.lessen.new.numbers
  back_twice = let m = multiplied.count in rw back (written_back_whole c.reach.new.numbers.len c.multiply.new.numbers c.lessen.new.numbers (omega arith) lessened.count)

  den_is : to_z w64 (of_z w64 (to_z w64 (of_z w64 c.args.p) *ℤ to_z w64 (of_z w64 c.self.inside.den))) ≡ c.args.p *ℤ c.self.inside.den
  den_is =
      let p : FitsSigned w64 c.args.p = search rules in
      let d : FitsSigned w64 c.self.inside.den = search rules in
      let f = den_fits c.args.p c.args.q c.args.bound c.self.inside.numbers.items c.self.inside.den c.self.inside.bound c.args.lead.now c.reach.new.numbers.items is_ready in
      rw (to_z-of_z w64 _ p, to_z-of_z w64 _ d) (to_z-of_z w64 _ f)

pub invariant_of-self-2 : goal.invariant_of-self-2
invariant_of-self-2 c =
    let b : FitsSigned w64 c.args.bound = search rules in
    let m = let x = multiplied c in x.count in
    let l = let x = lessened c in x.count in
    let most = c.in_ok-reach.ensures.most in
    rw (back_twice c, den_is c, to_z-of_z w64 _ b) (
      combined_short c.args.p c.args.q c.args.bound c.self.inside.numbers.items c.self.inside.den c.self.inside.bound c.args.lead.now c.reach.new.numbers.items (is_ready c) c.multiply.new.numbers (multiplied c) c.lessen.new.numbers (lessened c),
      omega arith,
    )

pub returns-clause-combined : goal.returns-clause-combined
returns-clause-combined c = rw (← c.self.view_is, back_twice c) (is_combined c.args.p c.args.q c.args.bound c.self.inside.numbers.items c.self.inside.den c.self.inside.bound c.args.lead.now c.reach.new.numbers.items (is_ready c) c.multiply.new.numbers (multiplied c) c.lessen.new.numbers (lessened c))

pub returns-clause-den : goal.returns-clause-den
returns-clause-den c = rw (← c.self.view_is) (den_is c)

pub returns-clause-short : goal.returns-clause-short
returns-clause-short c = let i = invariant_of-self-2 c in i.0
