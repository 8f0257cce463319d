use Rattle.std.proofs.Common.{◌↔◌, drop}
use Rattle.annot_types.specs.Certificate.{Rise, RiseFrom}
use Rattle.annot_types.proofs.annot.rise.Given as goal

-- the rest rises from here on exactly where the whole does
abbrev pub invariant-loop-place : goal.invariant-loop-place
invariant-loop-place l = RiseFrom l.least (drop l.place-index l.entries) ↔ Rise l.entries
