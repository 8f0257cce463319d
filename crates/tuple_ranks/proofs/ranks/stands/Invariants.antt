use Rattle.std.proofs.Common.{◌≡◌, ◌≤◌, drop, length, Some}
use Rattle.tuple_ranks.specs.Columns.{stands}
use Rattle.tuple_ranks.specs.Slots.{picked}
use Rattle.tuple_ranks.proofs.ranks.stands.Given as goal

abbrev pub decreases-loop-at : goal.decreases-loop-at
decreases-loop-at l = l.at

abbrev pub invariant-loop-at : goal.invariant-loop-at
invariant-loop-at l = record {
  within : l.at ≤ length l.columns;
  as_many : length l.columns ≡ length l.slots;
  stand : stands l.d (drop l.at l.columns) (picked (drop l.at l.slots) l.numbers) ≡ Some l.state;
}
