use Rattle.std.proofs.Common.{◌≡◌, ◌++◌, drop, map}
use Rattle.call_groups.specs.Read.{ids_of}
use Rattle.annot_types.specs.Read.{sig_of}
use Rattle.rules_walk.specs.Signed.{signatures, all_signed}
use Rattle.rules_walk.proofs.signatures.signatures.Given as goal

abbrev pub invariant-loop-fun : goal.invariant-loop-fun
invariant-loop-fun l =
    all_signed l.made.items ++ signatures l.budget (ids_of (drop l.fun-index l.members)) l.sizes (map sig_of l.sigs)
    ≡ signatures l.budget (ids_of l.members) l.fn.sizes (map sig_of l.fn.sigs)
