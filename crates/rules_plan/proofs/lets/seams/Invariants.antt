use Rattle.std.proofs.Common.{◌≡◌, ◌++◌, drop, map}
use Rattle.rules_plan.specs.Wide.{seam_of, seam_at, seams_from}
use Rattle.rules_plan.proofs.lets.seams.Given as goal

abbrev pub invariant-loop-place : goal.invariant-loop-place
invariant-loop-place l = map seam_of l.found.items ++ seams_from (seam_at l.halves l.inner l.rest) l.place (drop l.place l.joined) ≡ seams_from (seam_at l.halves l.inner l.rest) 0 l.joined
