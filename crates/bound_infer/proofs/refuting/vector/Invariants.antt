use Rattle.std.proofs.Common.{◌≡◌, map}
use Rattle.std.specs.List.{range_with_len}
use Rattle.annot_types.specs.Certificate.{number_at}
use Rattle.bound_infer.proofs.refuting.vector.Given as goal

abbrev pub invariant-loop-row : goal.invariant-loop-row
invariant-loop-row l = l.made.items ≡ map (λ row. number_at row l.farkas) (range_with_len 0 l.row)
