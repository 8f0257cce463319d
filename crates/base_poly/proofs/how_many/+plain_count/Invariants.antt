use Rattle.std.proofs.Common.{◌≡◌, ◌+◌, ◌*◌, ◌-◌, length}
use Rattle.std.specs.List.{range_with_len}
use Rattle.base_poly.specs.Base.{total}
use Rattle.base_poly.specs.Indices.{tuples_up_to}
use Rattle.base_poly.specs.Read.{context_of}
use Rattle.base_poly.proofs.how_many.+plain_count.Given as goal

abbrev pub decreases-plain_count : goal.decreases-plain_count
decreases-plain_count l = 4 * length l.types.now

abbrev pub decreases-behind_first : goal.decreases-behind_first
decreases-behind_first l = 4 * length l.rest.now + 3

abbrev pub decreases-behind_lengths : goal.decreases-behind_lengths
decreases-behind_lengths l = 4 * length l.rest.now + 2

abbrev pub decreases-added : goal.decreases-added
decreases-added l = 4 * length l.rest.now + 1

abbrev pub invariant-behind_lengths-loop-g : goal.invariant-behind_lengths-loop-g
invariant-behind_lengths-loop-g l =
    l.sum + total (λ g. length (tuples_up_to (context_of l.rest) (l.d - g))) (range_with_len l.g (1 + l.d - l.g)) ≡ total (λ g. length (tuples_up_to (context_of l.rest) (l.d - g))) (range_with_len 0 (1 + l.d))
