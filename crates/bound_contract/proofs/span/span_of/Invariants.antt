use Rattle.std.proofs.Common.{◌≡◌, ◌≤◌, ◌+◌, drop, map}
use Rattle.call_groups.specs.Read.{ids_of}
use Rattle.rules_spec.specs.Tasks.{sides_count}
use Rattle.rules_plan.specs.Read.{body_of}
use Rattle.bound_contract.specs.System.{first_in, count_in}
use Rattle.bound_contract.proofs.span.span_of.Given as goal

-- what is left begins where the whole does, and is few
abbrev pub invariant-loop-place : goal.invariant-loop-place
invariant-loop-place l = record {
  same : first_in (map body_of (drop l.place l.bodies)) (ids_of (drop l.place l.group)) l.fun.0 l.first ≡ first_in (map body_of l.bodies) (ids_of l.group) l.fun.0 0;
  count : count_in (map body_of (drop l.place l.bodies)) (ids_of (drop l.place l.group)) l.fun.0 ≡ count_in (map body_of l.bodies) (ids_of l.group) l.fun.0;
  few : l.first + sides_count (map body_of (drop l.place l.bodies)) ≤ 2000;
}
