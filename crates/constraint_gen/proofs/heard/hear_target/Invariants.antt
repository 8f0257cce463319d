use Rattle.std.proofs.Common.{◌≡◌, ℕ, drop}
use Rattle.constraint_gen.specs.Heard.{hear_all}
use Rattle.constraint_gen.specs.Walked.{reached}
use Rattle.constraint_gen.proofs.heard.hear_target.Given as goal

abbrev pub invariant-loop-position : goal.invariant-loop-position
invariant-loop-position l =
    ((function : ℕ) → hear_all l.collector (reached function l.result_of (drop l.position-index l.positions)) ≡ hear_all l.fn.collector (reached function l.result_of l.positions))
