use Rattle.std.proofs.Common.{◌≡◌, map, take, drop}
use Rattle.raml_syntax.specs.Read.{parameter_of}
use Rattle.simple_types.specs.Headers.{names_in}
use Rattle.simple_types.specs.Walk.{repeated, all_new, distinct, parameter_name}
use Rattle.simple_types.proofs.program.differ.Given as goal

abbrev pub invariant-loop-i : goal.invariant-loop-i
invariant-loop-i l =
    all_new (repeated (names_in (take l.i l.params)) (map parameter_name (map parameter_of (drop l.i l.params)))) ≡ distinct (map parameter_name (map parameter_of l.params))
