use Rattle.std.proofs.Common.{◌≡◌, drop}
use Rattle.call_groups.specs.Read.{ids_of}
use Rattle.explain_rounds.specs.Calls.{is_in}
use Rattle.explain_rounds.proofs.idle.is_in.Given as goal

abbrev pub invariant-loop-member : goal.invariant-loop-member
invariant-loop-member l = is_in l.fun.0 (ids_of (drop l.member-index l.group)) ≡ is_in l.fun.0 (ids_of l.group)
