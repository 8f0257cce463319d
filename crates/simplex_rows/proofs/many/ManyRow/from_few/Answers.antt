use Rattle.std.proofs.Common.{◌≡◌, [], rules, arith, FitsSigned, length, take, drop, ◌++◌}
use Rattle.std.proofs.lemmas.Int.{to_z-of_z}
use Rattle.std.specs.Int.{w64}
use lib.IntN.{negsuc}
use Rattle.simplex_rows.specs.Placed.{AreKept, AreLessened}
use Rattle.simplex_rows.proofs.ManyCombining.{written_back_whole, spread_fits, spread_same, spread_short}
use Rattle.simplex_rows.proofs.many.ManyRow.from_few.Goals as goal

pub lessen-requires-clause-fit : goal.lessen-requires-clause-fit
lessen-requires-clause-fit c =
    rw (c.deref_mut.ensures.value, c.entries-2.ensures.all) (spread_fits c.args.few.now c.entries.ensures.short c.reach.new.numbers.items (rw c.new-numbers.ensures.items at c.in_ok-reach.ensures.kept))

-- at the end
module _ (c : goal.After-bound) where
  kept : AreKept [] c.reach.new.numbers.items
  kept = rw c.new-numbers.ensures.items at c.in_ok-reach.ensures.kept

  spread : AreLessened (negsuc 0) c.args.few.now.numbers c.reach.new.numbers.items c.lessen.new.numbers
  spread = rw (c.deref_mut.ensures.value, c.entries-2.ensures.all) at c.lessen.ensures

  back : take c.reach.new.numbers.len (c.lessen.new.numbers ++ drop (length c.lessen.new.numbers) c.reach.new.numbers.items) ≡ c.lessen.new.numbers
  back = written_back_whole c.reach.new.numbers.len c.reach.new.numbers.items c.lessen.new.numbers (omega arith) spread.count

pub invariant_of-result : goal.invariant_of-result
invariant_of-result c =
    let d : FitsSigned w64 c.den.result = search rules in
    let b : FitsSigned w64 c.bound.result = search rules in
    let l = let x = spread c in x.count in
    let most = c.in_ok-reach.ensures.most in
    rw (back c, to_z-of_z w64 _ d, to_z-of_z w64 _ b, c.den.ensures.den, c.bound.ensures.value) (
      spread_short c.args.few.now c.entries.ensures.short c.reach.new.numbers.items (kept c) c.lessen.new.numbers (spread c),
      omega arith,
    )

pub returns-clause-short : goal.returns-clause-short
returns-clause-short c =
    let d : FitsSigned w64 c.den.result = search rules in
    let b : FitsSigned w64 c.bound.result = search rules in
    rw (back c, to_z-of_z w64 _ d, to_z-of_z w64 _ b, c.den.ensures.den, c.bound.ensures.value) (spread_short c.args.few.now c.entries.ensures.short c.reach.new.numbers.items (kept c) c.lessen.new.numbers (spread c))

pub returns-clause-same : goal.returns-clause-same
returns-clause-same c =
    let d : FitsSigned w64 c.den.result = search rules in
    let b : FitsSigned w64 c.bound.result = search rules in
    rw (back c, to_z-of_z w64 _ d, to_z-of_z w64 _ b) (
      spread_same c.args.few.now c.entries.ensures.short c.reach.new.numbers.items (kept c) c.lessen.new.numbers (spread c),
      c.den.ensures.den,
      c.bound.ensures.value,
    )
