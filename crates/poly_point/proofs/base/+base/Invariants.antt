use Rattle.std.proofs.Common.{◌≡◌, ◌+◌, ◌*◌, ◌<◌, ◌≤◌, ℕ, All, length, get_or}
use Rattle.base_poly.specs.Plain.{many}
use Rattle.base_poly.specs.Read.{index_of, plains_of}
use Rattle.base_poly.proofs.Height.{parts}
use Rattle.value_text.specs.Heap.{IsBelow}
use Rattle.poly_point.specs.Walk.{value, waiting_elements, raised}
use Rattle.poly_point.proofs.Sums.{IsWalked}
use Rattle.poly_point.proofs.base.+base.Given as goal

abbrev pub decreases-base : goal.decreases-base
decreases-base l = 3 * parts (index_of l.index.now) + 2

abbrev pub decreases-both : goal.decreases-both
decreases-both l = 3 * (parts (index_of l.first.now) + parts (index_of l.second.now)) + 3

abbrev pub decreases-over : goal.decreases-over
decreases-over l = 3 * parts (many (plains_of l.entries.now)) + 1

abbrev pub decreases-raise : goal.decreases-raise
decreases-raise l = 3 * parts (many (plains_of l.entries.now))

abbrev pub invariant-over-loop-waiting : goal.invariant-over-loop-waiting
invariant-over-loop-waiting l = record {
  below : All (IsBelow (length l.heap.cells)) l.waiting.items;
  len : length l.sums ≡ 5;
  walked : IsWalked l.heap.cells (plains_of l.entries) (value l.heap.cells l.fn.word) l.sums l.waiting.items;
}

abbrev pub decreases-over-loop-waiting : goal.decreases-over-loop-waiting
decreases-over-loop-waiting l = length (waiting_elements l.heap.cells l.waiting.items)

abbrev pub invariant-raise-loop-place : goal.invariant-raise-loop-place
invariant-raise-loop-place l = record {
  within : l.place ≤ length l.entries;
  len : length l.sums ≡ length l.fn.sums;
  done : (m : ℕ) → l.place ≤ m → m < length l.entries → get_or l.sums (m + 1) 0 ≡ raised (plains_of l.entries) (value l.heap.cells l.element) l.fn.sums m;
  rest : (m : ℕ) → m ≤ l.place → get_or l.sums m 0 ≡ get_or l.fn.sums m 0;
}

abbrev pub decreases-raise-loop-place : goal.decreases-raise-loop-place
decreases-raise-loop-place l = l.place
