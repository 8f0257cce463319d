use Rattle.std.proofs.Common.{◌≡◌, drop}
use Rattle.cost_free.specs.Blocked.{is_among}
use Rattle.cost_free.specs.Read.{ids_of}
use Rattle.cost_free.proofs.waiting.is_among.Given as goal

abbrev pub invariant-loop-item : goal.invariant-loop-item
invariant-loop-item l = is_among l.fun (ids_of (drop l.item-index l.funs)) ≡ is_among l.fun (ids_of l.funs)
