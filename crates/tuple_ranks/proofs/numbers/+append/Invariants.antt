use Rattle.std.proofs.Common.{◌≡◌, ◌+◌, ◌*◌, ◌++◌, drop, length}
use Rattle.tuple_ranks.specs.Columns.{sizes_in}
use Rattle.tuple_ranks.specs.Numbers.{led, numbered, flat_behind}
use Rattle.tuple_ranks.proofs.numbers.+append.Given as goal

abbrev pub decreases-append : goal.decreases-append
decreases-append l = 3 * length l.columns.now

abbrev pub decreases-append_led : goal.decreases-append_led
decreases-append_led l = 3 * length l.columns.now + 2

abbrev pub decreases-append_behind : goal.decreases-append_behind
decreases-append_behind l = 3 * length l.columns.now + 1

abbrev pub invariant-append_led-loop-number : goal.invariant-append_led-loop-number
invariant-append_led-loop-number l = record {
  all : l.found.items ++ flat_behind l.fn.before.items (led (numbered (sizes_in l.columns)) l.g l.number (drop l.number l.sizes)) ≡ l.fn.found.items ++ flat_behind l.fn.before.items (led (numbered (sizes_in l.columns)) l.g 0 l.sizes);
  kept : l.before.items ≡ l.fn.before.items;
}
