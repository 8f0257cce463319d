use Rattle.std.proofs.Common.{◌≡◌, drop}
use Rattle.annot_types.specs.Certificate.{number_at}
use Rattle.bound_infer.proofs.refuting.number_at.Given as goal

-- what the rest has at the row, the whole has
abbrev pub invariant-loop-place : goal.invariant-loop-place
invariant-loop-place l = number_at l.row (drop l.place-index l.farkas) ≡ number_at l.row l.farkas
