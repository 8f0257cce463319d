use Rattle.std.proofs.Common.{map, drop}
use Rattle.annot_types.specs.Read.{hints_of}
use Rattle.cert_check.specs.Limits.{AllHintsSmall}
use Rattle.cert_check.proofs.limits.all_hints_small.Given as goal

abbrev pub invariant-loop-hints : goal.invariant-loop-hints
invariant-loop-hints l = AllHintsSmall (map hints_of (drop l.hints-index l.lists)) → AllHintsSmall (map hints_of l.lists)
