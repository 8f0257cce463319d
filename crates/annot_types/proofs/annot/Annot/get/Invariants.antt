use Rattle.std.proofs.Common.{◌≡◌, drop}
use Rattle.annot_types.specs.Certificate.{number_at}
use Rattle.annot_types.proofs.annot.Annot.get.Given as goal

-- what the rest has at the position, the whole has
abbrev pub invariant-loop-place : goal.invariant-loop-place
invariant-loop-place l = number_at l.position (drop l.place-index l.place-items) ≡ number_at l.position l.place-items
