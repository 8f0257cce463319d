use Rattle.std.proofs.Common.{◌≡◌, ◌++◌, drop, map}
use Rattle.annot_types.specs.Read.{sig_of}
use Rattle.rules_spec.specs.Capped.{capped_amount}
use Rattle.rules_spec.specs.Carried.{sides_to}
use Rattle.rules_walk.specs.Read.{sides_of}
use Rattle.rules_plan.specs.Read.{body_of}
use Rattle.cert_check.specs.Finds.{sides_at}
use Rattle.cert_check.proofs.amounts.all_sides.Given as goal

abbrev pub invariant-loop-body : goal.invariant-loop-body
invariant-loop-body l =
    map sides_of l.made.items ++ map (sides_to capped_amount) (sides_at (map body_of (drop l.body-index l.bodies)) (map sig_of l.sigs))
    ≡ map (sides_to capped_amount) (sides_at (map body_of l.bodies) (map sig_of l.fn.sigs))
