use Rattle.std.proofs.Common.{arith}
use Rattle.poly_point.specs.Walk.{value}
use Rattle.explain_marks.proofs.Counted.{few_elements, left_part, list_counted, none_counted, right_part, tail_part, tree_counted}
use Rattle.explain_marks.proofs.elements.+count_elements.Goals as goal

pub overflow_add-count : goal.overflow_add-count
overflow_add-count t c =
    let cells = c.args.heap.now.cells in
    let whole = c.rest.invariant.counted in
    let more = list_counted cells c.get.ensures.earlier c.rest.rest c.in-Cell.number c.in-Cell.is c.in-Cons.field-0 c.in-Cons.tail c.in-Cons.ensures.cell in
    let few = few_elements (value cells c.args.word) in
    let small = c.requires.small in
    omega (arith, whole, more, few, small)

pub rest-smaller-in-Cons : goal.rest-smaller-in-Cons
rest-smaller-in-Cons t c =
    (tail_part c.args.heap.now.cells c.get.ensures.earlier c.rest.rest c.in-Cell.number c.in-Cell.is c.in-Cons.field-0 c.in-Cons.tail c.in-Cons.ensures.cell).earlier

pub rest-preserved-in-Cons : goal.rest-preserved-in-Cons
rest-preserved-in-Cons t c =
    let cells = c.args.heap.now.cells in
    let part = tail_part cells c.get.ensures.earlier c.rest.rest c.in-Cell.number c.in-Cell.is c.in-Cons.field-0 c.in-Cons.tail c.in-Cons.ensures.cell in
    let more = list_counted cells c.get.ensures.earlier c.rest.rest c.in-Cell.number c.in-Cell.is c.in-Cons.field-0 c.in-Cons.tail c.in-Cons.ensures.cell in
    let whole = c.rest.invariant.counted in
    let before = c.rest.invariant.earlier in
    let small = c.rest.invariant.small in
    let lower = part.earlier in
    let less = part.small in
    record {
      there = part.there;
      earlier = omega (arith, before, lower);
      small = omega (arith, small, less);
      counted = omega (arith, whole, more);
    }

pub count_elements-requires : goal.count_elements-requires
count_elements-requires t c =
    let cells = c.args.heap.now.cells in
    let part = left_part cells c.get.ensures.earlier c.rest.rest c.in-Cell.number c.in-Cell.is c.in-Node.field-0 c.in-Node.left c.in-Node.right c.in-Node.ensures.cell in
    let before = c.rest.invariant.earlier in
    let lower = part.earlier in
    let small = c.rest.invariant.small in
    let less = part.small in
    let falls = c.decreases in
    (omega (arith, before, lower, falls), (part.there, omega (arith, small, less)))

pub overflow_add-count-in-Node : goal.overflow_add-count-in-Node
overflow_add-count-in-Node t c =
    let cells = c.args.heap.now.cells in
    let whole = c.rest.invariant.counted in
    let more = tree_counted cells c.get.ensures.earlier c.rest.rest c.in-Cell.number c.in-Cell.is c.in-Node.field-0 c.in-Node.left c.in-Node.right c.in-Node.ensures.cell in
    let few = few_elements (value cells c.args.word) in
    let small = c.requires.small in
    let counted = c.count_elements.ensures in
    omega (arith, whole, more, few, small, counted)

pub overflow_add-count-in-Node-2 : goal.overflow_add-count-in-Node-2
overflow_add-count-in-Node-2 t c =
    let cells = c.args.heap.now.cells in
    let whole = c.rest.invariant.counted in
    let more = tree_counted cells c.get.ensures.earlier c.rest.rest c.in-Cell.number c.in-Cell.is c.in-Node.field-0 c.in-Node.left c.in-Node.right c.in-Node.ensures.cell in
    let few = few_elements (value cells c.args.word) in
    let small = c.requires.small in
    let counted = c.count_elements.ensures in
    omega (arith, whole, more, few, small, counted)

pub rest-smaller : goal.rest-smaller
rest-smaller t c =
    (right_part c.args.heap.now.cells c.get.ensures.earlier c.rest.rest c.in-Cell.number c.in-Cell.is c.in-Node.field-0 c.in-Node.left c.in-Node.right c.in-Node.ensures.cell).earlier

pub rest-preserved : goal.rest-preserved
rest-preserved t c =
    let cells = c.args.heap.now.cells in
    let part = right_part cells c.get.ensures.earlier c.rest.rest c.in-Cell.number c.in-Cell.is c.in-Node.field-0 c.in-Node.left c.in-Node.right c.in-Node.ensures.cell in
    let more = tree_counted cells c.get.ensures.earlier c.rest.rest c.in-Cell.number c.in-Cell.is c.in-Node.field-0 c.in-Node.left c.in-Node.right c.in-Node.ensures.cell in
    let whole = c.rest.invariant.counted in
    let before = c.rest.invariant.earlier in
    let small = c.rest.invariant.small in
    let lower = part.earlier in
    let less = part.small in
    let counted = c.count_elements.ensures in
    record {
      there = part.there;
      earlier = omega (arith, before, lower);
      small = omega (arith, small, less);
      counted = omega (arith, whole, more, counted);
    }

pub returns-in-Pair : goal.returns-in-Pair
returns-in-Pair t c =
    let none = none_counted c.args.heap.now.cells c.get.ensures.earlier c.rest.rest c.in-Cell.number c.in-Cell.is c.get.result c.get.ensures.cell c.in-Pair.is in
    let whole = c.rest.invariant.counted in
    omega (arith, whole, none)
