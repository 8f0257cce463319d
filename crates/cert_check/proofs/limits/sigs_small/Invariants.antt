use Rattle.std.proofs.Common.{map, drop}
use Rattle.annot_types.specs.Read.{sig_of}
use Rattle.cert_check.specs.Limits.{SigsSmall}
use Rattle.cert_check.proofs.limits.sigs_small.Given as goal

abbrev pub invariant-loop-sig : goal.invariant-loop-sig
invariant-loop-sig l = SigsSmall (map sig_of (drop l.sig-index l.sigs)) → SigsSmall (map sig_of l.sigs)
