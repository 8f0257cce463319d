use Rattle.std.proofs.Common.{◌≡◌, All, length, vec_len}
use Rattle.value_text.specs.Heap.{IsBelow}
use Rattle.poly_point.specs.Walk.{waiting_elements}
use Rattle.poly_point.proofs.elements.next.Given as goal

abbrev pub invariant-loop-word : goal.invariant-loop-word
invariant-loop-word l = record {
  below : All (IsBelow (length l.heap.cells)) l.waiting.items;
  same : waiting_elements l.heap.cells l.waiting.items ≡ waiting_elements l.heap.cells l.fn.waiting.items;
}

abbrev pub decreases-loop-word : goal.decreases-loop-word
decreases-loop-word l = vec_len l.waiting
