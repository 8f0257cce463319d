use Rattle.std.proofs.Common.{◌≡◌, slice_index_or}
use Rattle.simplex_integers.specs.Denominators.{denominators}
use Rattle.simplex_integers.proofs.Common.{none_yet, one_more, leaves_at}
use Rattle.simplex_integers.proofs.denominator.least_denominator.Goals as goal

pub loop-entry-init : goal.loop-entry-init
loop-entry-init c = none_yet (denominators c.args.fractions.now)

pub returns-in-None : goal.returns-in-None
returns-in-None c =
    let e : c.index-fractions-entry.result ≡ slice_index_or c.args.fractions.now c.loop-entry.entry c.index-fractions-entry.result = c.index-fractions-entry.is in
    leaves_at c.args.fractions.now c.loop-entry.entry c.loop-entry.so_far c.index-fractions-entry.result c.loop-entry-test.true c.loop-entry.invariant (rw e at c.in-None.ensures)

pub loop-entry-preserved : goal.loop-entry-preserved
loop-entry-preserved c =
    let e : c.index-fractions-entry.result ≡ slice_index_or c.args.fractions.now c.loop-entry.entry c.index-fractions-entry.result = c.index-fractions-entry.is in
    one_more c.args.fractions.now c.loop-entry.entry c.loop-entry.so_far c.in-Some.next c.index-fractions-entry.result c.loop-entry-test.true c.loop-entry.invariant (rw e at c.in-Some.ensures)
