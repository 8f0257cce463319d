use Rattle.std.proofs.Common.{◌≡◌, ◌+◌, drop}
use Rattle.std.specs.Option.{option_map}
use Rattle.call_groups.specs.Read.{ids_of}
use Rattle.rules_spec.specs.Planned.{place_in}
use Rattle.cert_check.proofs.target.place_of.Given as goal

abbrev pub invariant-loop-place : goal.invariant-loop-place
invariant-loop-place l = option_map (λ n. n + l.place) (place_in (ids_of (drop l.place l.functions)) l.fun.0) ≡ place_in (ids_of l.functions) l.fun.0
