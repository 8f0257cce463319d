use Rattle.std.proofs.Common.{◌≡◌, ◌++◌, drop}
use Rattle.explain_sizes.specs.Open.{all_filled}
use Rattle.explain_sizes.specs.Read.{all_sizes, all_open}
use Rattle.explain_sizes.proofs.open_size.fill_all.Given as goal

abbrev pub invariant-loop-size : goal.invariant-loop-size
invariant-loop-size l = all_sizes l.filled.items ++ all_filled l.number (all_open (drop l.size-index l.sizes)) ≡ all_filled l.number (all_open l.sizes)
