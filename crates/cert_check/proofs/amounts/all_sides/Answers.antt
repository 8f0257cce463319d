use Rattle.std.proofs.Common.{ap, drop, map, arith}
use Rattle.std.proofs.lemmas.List.{length-map}
use Rattle.annot_types.specs.Read.{sig_of}
use Rattle.rules_spec.specs.Capped.{capped_amount}
use Rattle.rules_spec.specs.Carried.{sides_to}
use Rattle.rules_walk.specs.Read.{sides_of}
use Rattle.rules_plan.specs.Read.{body_of}
use Rattle.cert_check.proofs.Ended.{all_made, no_sigs}
use Rattle.cert_check.proofs.amounts.all_sides.Goals as goal

pub returns-in_default : goal.returns-in_default
returns-in_default c = all_made (map sides_of c.loop-body.made.items) _ _
    (ap (map (sides_to capped_amount)) (no_sigs (map body_of (drop c.loop-body.body-index c.args.bodies.now)) (map sig_of c.loop-body.sigs.now)
    (omega (arith, c.in_default.len_below, length-map c.loop-body.sigs.now sig_of)))) c.loop-body.invariant
