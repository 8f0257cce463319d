use Rattle.std.proofs.Common.{◌≡◌, map}
use Rattle.annot_types.specs.Read.{hints_of}
use Rattle.rules_spec.specs.Capped.{capped_amount}
use Rattle.rules_spec.specs.Carried.{hint_to}
use Rattle.rules_spec.specs.Faults.{first_fault}
use Rattle.rules_walk.specs.Read.{known_of, mode_of}
use Rattle.rules_plan.specs.Read.{body_of}
use Rattle.cert_check.specs.Asking.{all_asks_of}
use Rattle.cert_check.specs.Finds.{hints_by}
use Rattle.cert_check.specs.Judged.{verdict_of}
use Rattle.cert_check.specs.Judging.{bodies_walked}
use Rattle.cert_check.proofs.Hearing.{heard_from}
use Rattle.cert_check.proofs.rules.judged.Given as goal

abbrev pub invariant-loop-place : goal.invariant-loop-place
invariant-loop-place l =
    heard_from (known_of l.known) (mode_of l.mode) l.bodies l.asks l.hints l.place (verdict_of l.judge)
    ≡ first_fault (bodies_walked (known_of l.known) (mode_of l.mode) 0 (map body_of l.bodies)
    (map (map (hint_to capped_amount)) (hints_by (all_asks_of l.asks) (map hints_of l.hints))))
