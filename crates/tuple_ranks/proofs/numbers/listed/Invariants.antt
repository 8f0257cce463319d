use Rattle.std.proofs.Common.{◌≡◌, ◌+◌, ◌-◌, ◌++◌, []}
use Rattle.tuple_ranks.specs.Columns.{sizes_in}
use Rattle.tuple_ranks.specs.Numbers.{all_numbered, flat}
use Rattle.tuple_ranks.proofs.numbers.listed.Given as goal

abbrev pub invariant-loop-g : goal.invariant-loop-g
invariant-loop-g l = record {
  found : l.found.items ++ flat (all_numbered (sizes_in l.columns) (1 + l.d - l.g) l.g) ≡ flat (all_numbered (sizes_in l.columns) (1 + l.d) 0);
  before : l.before.items ≡ [];
}
