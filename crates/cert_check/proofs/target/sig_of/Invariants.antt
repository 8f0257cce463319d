use Rattle.std.proofs.Common.{◌≡◌, drop, map}
use Rattle.call_groups.specs.Read.{ids_of}
use Rattle.annot_types.specs.Signature.{sig_among}
use Rattle.annot_types.specs.Read.{sig_of}
use Rattle.cert_check.proofs.target.sig_of.Given as goal

abbrev pub invariant-loop-function : goal.invariant-loop-function
invariant-loop-function l =
    sig_among (ids_of (drop l.function-index l.functions)) (map sig_of l.rest) l.fun.0 ≡ sig_among (ids_of l.functions) (map sig_of l.fn.sigs) l.fun.0
