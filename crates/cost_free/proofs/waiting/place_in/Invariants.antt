use Rattle.std.proofs.Common.{◌≡◌, take, false}
use Rattle.cost_free.specs.Blocked.{in_any}
use Rattle.cost_free.specs.Read.{lists_of}
use Rattle.cost_free.proofs.waiting.place_in.Given as goal

abbrev pub invariant-loop-place : goal.invariant-loop-place
invariant-loop-place l = in_any l.fun (lists_of (take l.place l.groups)) ≡ false
