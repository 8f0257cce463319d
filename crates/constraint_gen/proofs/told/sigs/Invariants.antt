use Rattle.std.proofs.Common.{◌≡◌, ◌+◌, ◌++◌, drop, map}
use Rattle.annot_types.specs.Read.{sig_of}
use Rattle.rules_spec.specs.Tasks.{sides_count, sides_given}
use Rattle.rules_plan.specs.Read.{body_of}
use Rattle.rules_spec.specs.Told as t
use Rattle.constraint_gen.specs.Numbers.{numbers}
use Rattle.constraint_gen.proofs.told.sigs.Given as goal

abbrev pub invariant-loop-body : goal.invariant-loop-body
invariant-loop-body l =
    (map sig_of l.made.items ++ map t.sig (sides_given (numbers l.solution) l.next (map body_of (drop l.body-index l.bodies))) ≡ map t.sig (sides_given (numbers l.solution) l.fn.next (map body_of l.bodies)))
    × (l.next + sides_count (map body_of (drop l.body-index l.bodies)) ≡ l.fn.next + sides_count (map body_of l.bodies))
