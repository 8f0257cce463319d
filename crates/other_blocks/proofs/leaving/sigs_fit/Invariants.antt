use Rattle.std.proofs.Common.{◌≡◌, drop, map}
use Rattle.std.specs.List.{list_all}
use Rattle.annot_types.specs.Read.{sig_of}
use Rattle.other_blocks.specs.Leaving.{sig_fits}
use Rattle.other_blocks.proofs.leaving.sigs_fit.Given as goal

abbrev pub invariant-loop-sig : goal.invariant-loop-sig
invariant-loop-sig l =
    list_all (sig_fits l.factor) (map sig_of (drop l.sig-index l.sigs)) ≡ list_all (sig_fits l.factor) (map sig_of l.sigs)
