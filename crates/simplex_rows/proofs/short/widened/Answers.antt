use Rattle.std.proofs.Common.{length, ◌<◌, ◌≤◌, unsigned_abs}
use Rattle.std.proofs.lemmas.Int.{to_z-of_z}
use Rattle.std.specs.Int.{w64}
use Rattle.simplex_rows.proofs.ShortTells.{den_fits}
use Rattle.simplex_rows.proofs.Widening.{widens_none, next_before, widens_next, widens_all, entry_fits, entry_over, all_before}
use Rattle.simplex_rows.proofs.short.widened.Goals as goal

pub loop-column-init : goal.loop-column-init
loop-column-init c = rw c.in_ok-wide.ensures (widens_none (unsigned_abs c.args.row.now.den) c.args.row.now.numbers)

pub push-requires : goal.push-requires
push-requires c =
    let inside : c.loop-column.column-index < length c.args.row.now.numbers = rw c.entries-entries.ensures.all at c.loop-column-test.true in
    rw c.entries-entries.ensures.all (next_before (unsigned_abs c.args.row.now.den) c.loop-column.column-index c.args.row.now.numbers c.loop-column.wide c.entries-entries.ensures.short.ascends inside c.loop-column.invariant)

pub loop-column-preserved : goal.loop-column-preserved
loop-column-preserved c =
    let inside : c.loop-column.column-index < length c.args.row.now.numbers = rw c.entries-entries.ensures.all at c.loop-column-test.true in
    let number = entry_fits c.args.row.now c.loop-column.column-index c.entries-entries.ensures.short inside in
    let den = den_fits c.args.row.now c.entries-entries.ensures.short in
    let made = simp (c.den-den.ensures.den, c.entries-entries.ensures.all, to_z-of_z w64 _ number, to_z-of_z w64 _ den) at c.short.ensures in
    widens_next (unsigned_abs c.args.row.now.den) c.loop-column.column-index c.args.row.now.numbers c.loop-column.wide c.push.new.self c.short.result c.entries-entries.ensures.short.ascends inside c.loop-column.invariant
    (entry_over c.args.row.now c.loop-column.column-index c.short.result c.entries-entries.ensures.short made) (rw c.entries-entries.ensures.all at c.in_ok-push.ensures.added) (rw c.entries-entries.ensures.all at c.in_ok-push.ensures.before)

pub returns-clause-ends : goal.returns-clause-ends
returns-clause-ends c k e =
    let past : length c.args.row.now.numbers ≤ c.loop-column.column-index = rw c.entries-entries.ensures.all at c.loop-column-test.false in
    all_before (unsigned_abs c.args.row.now.den) c.loop-column.column-index k c.args.row.now c.loop-column.wide past c.loop-column.invariant e

pub returns-clause-same : goal.returns-clause-same
returns-clause-same c =
    let past : length c.args.row.now.numbers ≤ c.loop-column.column-index = rw c.entries-entries.ensures.all at c.loop-column-test.false in
    widens_all c.args.row.now c.loop-column.column-index c.loop-column.wide c.entries-entries.ensures.short past c.loop-column.invariant
