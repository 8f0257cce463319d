use Rattle.std.proofs.Common.{◌≡◌, map}
use Rattle.std.specs.Option.{option_map}
use Rattle.rules_walk.specs.Read.{signature_of}
use Rattle.rules_walk.specs.Signed.{all_signed, filled}
use Rattle.rules_walk.proofs.tables.fill_all.Given as goal

abbrev pub invariant-loop-one : goal.invariant-loop-one
invariant-loop-one l = map (option_map signature_of) l.table.items ≡ filled (all_signed l.yielded) (map (option_map signature_of) l.fn.table.items)
