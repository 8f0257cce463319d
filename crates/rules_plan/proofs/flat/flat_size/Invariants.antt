use Rattle.std.proofs.Common.{◌≡◌, ◌≤◌, ◌+◌, ◌*◌}
use Rattle.rules_plan.specs.Flat.{flat_size}
use Rattle.rules_plan.proofs.flat.flat_size.Given as goal

abbrev pub invariant-loop-done : goal.invariant-loop-done
invariant-loop-done l = record {
  first : l.first ≡ flat_size l.done 1;
  second : l.second ≡ flat_size l.done 2;
  third : l.third ≡ flat_size l.done 3;
  fourth : l.fourth ≡ flat_size l.done 4;
  first_low : l.first ≤ 1 + l.done;
  second_low : l.second ≤ 1 + 11 * l.done;
  third_low : l.third ≤ 1 + 120 * l.done;
  fourth_low : l.fourth ≤ 1 + 1300 * l.done;
}
