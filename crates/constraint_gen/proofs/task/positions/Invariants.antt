use Rattle.std.proofs.Common.{◌≡◌, [], slice_index_or}
use Rattle.std.specs.Prelude.{filter}
use Rattle.std.specs.List.{list_any, range_with_len}
use Rattle.base_poly.specs.Plain.{alike}
use Rattle.constraint_gen.proofs.task.positions.Given as goal

abbrev pub invariant-loop-place : goal.invariant-loop-place
invariant-loop-place l = l.found.items ≡ filter (λ k. list_any (alike (slice_index_or l.all.items k [])) l.target) (range_with_len 0 l.place)
