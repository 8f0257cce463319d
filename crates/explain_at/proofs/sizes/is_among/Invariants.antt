use Rattle.std.proofs.Common.{◌≡◌, drop}
use Rattle.std.specs.List.{list_any}
use Rattle.std.specs.Str.{bytes_eq}
use Rattle.explain_at.specs.Read.{texts}
use Rattle.explain_at.proofs.sizes.is_among.Given as goal

abbrev pub invariant-loop-one : goal.invariant-loop-one
invariant-loop-one l = list_any (bytes_eq l.name) (texts (drop l.one-index l.names)) ≡ list_any (bytes_eq l.name) (texts l.names)
