use Rattle.std.proofs.Common.{sym, ◌∙◌, map, drop, arith}
use Rattle.std.proofs.lemmas.List.{length-map}
use Rattle.call_groups.specs.Read.{ids_of}
use Rattle.annot_types.specs.Read.{sig_of}
use Rattle.cert_check.proofs.Ended.{none_signed}
use Rattle.cert_check.proofs.target.sig_of.Goals as goal

pub returns-in-empty : goal.returns-in-empty
returns-in-empty c =
    sym (none_signed (ids_of (drop c.loop-function.function-index c.args.functions.now)) (map sig_of c.loop-function.rest.now) c.args.fun.0
    (omega (arith, c.in-empty.len_below, length-map c.loop-function.rest.now sig_of))) ∙ c.loop-function.invariant
