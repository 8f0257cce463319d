use Rattle.std.proofs.Common.{◌≡◌, ◌+◌, ◌-◌, ◌++◌, flat_map, filter, nat_eq}
use Rattle.std.specs.List.{range_with_len}
use Rattle.cost_free.proofs.target_degrees.append_ascending.Given as goal

abbrev pub invariant-loop-degree : goal.invariant-loop-degree
invariant-loop-degree l =
    l.found.items ++ flat_map (λ g. filter (λ n. nat_eq n g) l.units) (range_with_len l.degree (l.d + 1 - l.degree))
    ≡ l.fn.found.items ++ flat_map (λ g. filter (λ n. nat_eq n g) l.units) (range_with_len 0 (l.d + 1))
