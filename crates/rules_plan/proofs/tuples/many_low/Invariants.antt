use Rattle.std.proofs.Common.{◌≡◌, ◌≤◌, ◌+◌, drop}
use Rattle.rules_plan.specs.Down.{many_low}
use Rattle.rules_plan.proofs.tuples.many_low.Given as goal

abbrev pub invariant-loop-degree : goal.invariant-loop-degree
invariant-loop-degree l = record {
  few : l.found ≤ l.degree-index;
  all : l.found + many_low (drop l.degree-index l.degrees) l.d ≡ many_low l.degrees l.d;
}
