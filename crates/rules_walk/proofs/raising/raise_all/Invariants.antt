use Rattle.std.specs.Option.{option_map}
use Rattle.rules_walk.specs.Read.{signature_of}
use Rattle.rules_walk.specs.Raised.{raised_signature}
use Rattle.rules_walk.proofs.Rising.{ChangedTo}
use Rattle.rules_walk.proofs.raising.raise_all.Given as goal

abbrev pub invariant-loop-place : goal.invariant-loop-place
invariant-loop-place l = ChangedTo (option_map signature_of) (option_map (raised_signature l.factor)) l.place l.initial.table.items l.table.items
