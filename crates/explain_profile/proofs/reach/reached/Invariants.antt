use Rattle.std.proofs.Common.{◌≤◌, ◌+◌, ◌-◌, take, length}
use Rattle.raml_syntax.specs.Read.{program_of}
use Rattle.call_groups.specs.Read.{ids_of}
use Rattle.explain_profile.specs.Walk.{missing, Walked}
use Rattle.explain_profile.proofs.reach.reached.Given as goal

abbrev pub invariant-loop-place : goal.invariant-loop-place
invariant-loop-place l = record {
  walked : Walked (program_of l.program) l.fn.fun.0 (take l.place (ids_of l.found.items)) (ids_of l.found.items);
  place : l.place ≤ length l.found.items;
}

abbrev pub decreases-loop-place : goal.decreases-loop-place
decreases-loop-place l = missing (length (program_of l.program)) (ids_of l.found.items) + (length l.found.items - l.place)
