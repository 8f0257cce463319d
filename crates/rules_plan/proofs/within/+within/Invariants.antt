use Rattle.std.proofs.Common.{◌+◌, ◌*◌}
use Rattle.normal_spec.specs.Norm.{size}
use Rattle.normal_spec.specs.Read.{norm_of}
use Rattle.rules_plan.proofs.within.+within.Given as goal

abbrev pub decreases-check : goal.decreases-check
decreases-check l = 4 * size (norm_of l.expr.now)

abbrev pub decreases-check_without : goal.decreases-check_without
decreases-check_without l = 4 * size (norm_of l.a.now) + 1

abbrev pub decreases-check_opened : goal.decreases-check_opened
decreases-check_opened l = 4 * size (norm_of l.a.now) + 1

abbrev pub decreases-check_shared : goal.decreases-check_shared
decreases-check_shared l = 4 * size (norm_of l.a.now) + 1

abbrev pub decreases-check_both : goal.decreases-check_both
decreases-check_both l = 4 * (size (norm_of l.a.now) + size (norm_of l.b.now)) + 2

abbrev pub decreases-check_case : goal.decreases-check_case
decreases-check_case l = 4 * (size (norm_of l.a.now) + size (norm_of l.b.now)) + 2

abbrev pub decreases-check_bound : goal.decreases-check_bound
decreases-check_bound l = 4 * size (norm_of l.a.now) + 1

abbrev pub decreases-check_rest : goal.decreases-check_rest
decreases-check_rest l = 4 * size (norm_of l.b.now) + 1

abbrev pub decreases-check_let : goal.decreases-check_let
decreases-check_let l = 4 * (size (norm_of l.a.now) + size (norm_of l.b.now)) + 2
