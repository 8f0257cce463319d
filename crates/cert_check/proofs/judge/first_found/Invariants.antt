use Rattle.std.proofs.Common.{◌≡◌, ◌+◌, drop}
use Rattle.rules_spec.specs.Capped.{capped}
use Rattle.rules_spec.specs.Faults.{first_fault}
use Rattle.rules_spec.specs.Walk.{against, numbered}
use Rattle.cert_check.proofs.judge.first_found.Given as goal

abbrev pub invariant-loop-place : goal.invariant-loop-place
invariant-loop-place l =
    first_fault (numbered l.path (l.index + l.place) (against capped (drop l.place l.left) (drop l.place l.right)))
    ≡ first_fault (numbered l.path l.index (against capped l.left l.right))
