use Rattle.std.proofs.Common.{◌≡◌, ◌≤◌, ◌+◌, ◌^◌, length}
use Rattle.raml_syntax.specs.Value.{size}
use Rattle.base_poly.specs.Base.{elements}
use Rattle.value_text.specs.Heap.{IsBelow}
use Rattle.poly_point.specs.Walk.{value}
use Rattle.explain_marks.proofs.Counted.{rank}
use Rattle.explain_marks.proofs.elements.+count_elements.Given as goal

abbrev pub decreases-count_elements : goal.decreases-count_elements
decreases-count_elements l = rank l.word

abbrev pub invariant-rest : goal.invariant-rest
invariant-rest l = record {
  there : IsBelow (length l.heap.cells) l.rest;
  earlier : rank l.rest ≤ rank l.fn.word;
  small : size (value l.heap.cells l.rest) ≤ 2 ^ 20;
  counted : l.count + length (elements (value l.heap.cells l.rest)) ≡ length (elements (value l.heap.cells l.fn.word));
}

abbrev pub decreases-rest : goal.decreases-rest
decreases-rest l = rank l.rest
