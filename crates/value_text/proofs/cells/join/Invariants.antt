use Rattle.std.proofs.Common.{◌≡◌, ◌+◌, [], length}
use Rattle.raml_syntax.specs.Value as v
use Rattle.value_text.specs.Heap.{IsBelow}
use Rattle.value_text.specs.Held.{held, value_of}
use Rattle.value_text.specs.Goals.{joined}
use Rattle.value_text.specs.State.{values_in, AllBelow, Grows}
use Rattle.value_text.proofs.cells.join.Given as goal

abbrev pub invariant-loop-left : goal.invariant-loop-left
invariant-loop-left l = record {
  value : joined l.left (values_in (held l.heap.cells) l.words.items []) (value_of (held l.heap.cells) l.tail) ≡ joined l.count (values_in (held l.fn.heap.cells) l.fn.words.items []) v.Empty;
  words : AllBelow (length l.heap.cells) l.words.items;
  tail : IsBelow (length l.heap.cells) l.tail;
  count : length l.heap.cells + l.left ≡ length l.fn.heap.cells + l.count;
  grows : Grows l.fn.heap.cells l.heap.cells;
}

abbrev pub decreases-loop-left : goal.decreases-loop-left
decreases-loop-left l = l.left
