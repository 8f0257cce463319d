use Rattle.std.proofs.Common.{◌≡◌, drop}
use Rattle.simple_types.specs.Headers.{names_in}
use Rattle.std.specs.List.{list_any}
use Rattle.std.specs.Str.{bytes_eq}
use Rattle.simple_types.proofs.program.stands_in.Given as goal

abbrev pub invariant-loop-param : goal.invariant-loop-param
invariant-loop-param l = list_any (bytes_eq l.name) (names_in (drop l.param-index l.params)) ≡ list_any (bytes_eq l.name) (names_in l.params)
