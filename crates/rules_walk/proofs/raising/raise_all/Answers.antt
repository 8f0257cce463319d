use Rattle.std.proofs.Common.{arith}
use Rattle.std.specs.Option.{option_map}
use Rattle.rules_walk.specs.Read.{signature_of}
use Rattle.rules_walk.specs.Raised.{raised_signature}
use Rattle.rules_walk.proofs.Rising.{one_more}
use Rattle.rules_walk.proofs.raising.raise_all.Goals as goal

pub loop-place-preserved : goal.loop-place-preserved
loop-place-preserved c = one_more (option_map signature_of) (option_map (raised_signature c.args.factor)) c.loop-place.place c.args.table.now.items c.loop-place.table.items c.index_mut.result.now c.raise_entry.new.entry (omega (arith, c.loop-place-test.true, c.len-place-end.ensures)) c.loop-place.invariant
    c.index_mut.ensures.value c.raise_entry.ensures
