use Rattle.std.proofs.Common.{◌≡◌, ◌++◌, drop, map}
use Rattle.rules_plan.specs.Entries.{restricted}
use Rattle.rules_plan.proofs.called.all_restricted.Given as goal

abbrev pub invariant-loop-from : goal.invariant-loop-from
invariant-loop-from l = map (λ es. es.items) l.found.items ++ map (λ n. restricted n l.limit l.entries) (drop l.from-index l.froms) ≡ map (λ n. restricted n l.limit l.entries) l.froms
