use Rattle.std.proofs.Common.{drop}
use Rattle.cert_check.specs.Limits.{EntriesSmall}
use Rattle.cert_check.proofs.limits.entries_small.Given as goal

abbrev pub invariant-loop-number : goal.invariant-loop-number
invariant-loop-number l = EntriesSmall (drop l.number-index l.entries) → EntriesSmall l.entries
