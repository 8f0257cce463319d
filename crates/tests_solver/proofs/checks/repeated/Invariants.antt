use Rattle.std.proofs.Common.{◌≡◌}
use Rattle.tests_solver.proofs.checks.repeated.Given as goal

abbrev pub invariant-loop : goal.invariant-loop
invariant-loop l = l.system.unknowns ≡ 1
