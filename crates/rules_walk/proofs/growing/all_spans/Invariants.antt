use Rattle.std.proofs.Common.{◌≡◌, ◌+◌, map, drop}
use Rattle.rules_spec.specs.Growth.{all_spans}
use Rattle.rules_walk.proofs.growing.all_spans.Given as goal

abbrev pub invariant-loop-map : goal.invariant-loop-map
invariant-loop-map l = l.all + all_spans (map (λ es. es.items) (drop l.map-index l.maps)) ≡ all_spans (map (λ es. es.items) l.maps)
