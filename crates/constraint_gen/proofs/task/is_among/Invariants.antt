use Rattle.std.proofs.Common.{◌≡◌, drop}
use Rattle.std.specs.List.{list_any}
use Rattle.base_poly.specs.Plain.{alike}
use Rattle.constraint_gen.proofs.task.is_among.Given as goal

abbrev pub invariant-loop-other : goal.invariant-loop-other
invariant-loop-other l = list_any (alike l.tuple) (drop l.other-index l.target) ≡ list_any (alike l.tuple) l.target
