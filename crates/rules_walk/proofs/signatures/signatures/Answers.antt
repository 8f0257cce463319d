use Rattle.std.proofs.Common.{map, drop, arith}
use Rattle.std.proofs.lemmas.List.{length-map}
use Rattle.call_groups.specs.Read.{ids_of}
use Rattle.annot_types.specs.Read.{sig_of}
use Rattle.rules_walk.specs.Signed.{all_signed}
use Rattle.rules_walk.proofs.Counting.{sizes_ended, sigs_ended}
use Rattle.rules_walk.proofs.signatures.signatures.Goals as goal

pub returns-in_default : goal.returns-in_default
returns-in_default c = sizes_ended c.args.budget (all_signed c.loop-fun.made.items) _ (ids_of (drop c.loop-fun.fun-index c.args.members.now))
    c.loop-fun.sizes.now (map sig_of c.loop-fun.sigs.now) c.in_default.len_below c.loop-fun.invariant

pub returns-in_default-sigs : goal.returns-in_default-sigs
returns-in_default-sigs c = sigs_ended c.args.budget (all_signed c.loop-fun.made.items) _ (ids_of (drop c.loop-fun.fun-index c.args.members.now))
    c.loop-fun.sizes.now (map sig_of c.loop-fun.sigs.now) (omega (arith, c.in_default-sigs.len_below, length-map c.loop-fun.sigs.now sig_of)) c.loop-fun.invariant
