use Rattle.std.proofs.Common.{◌≡◌, ◌++◌, drop}
use Rattle.cost_free.specs.Read.{places_of}
use Rattle.cost_free.proofs.join.places.Given as goal

abbrev pub invariant-loop-holder : goal.invariant-loop-holder
invariant-loop-holder l = l.places.items ++ places_of (drop l.holder-index l.holders) ≡ places_of l.holders
