use Rattle.std.proofs.Common.{rules, ◌-◌, [], sym, ap, ◌∙◌, length, arith, ◌≡◌}
use Rattle.value_text.specs.Held.{held, value_of}
use Rattle.value_text.specs.Goals.{joined}
use Rattle.value_text.specs.State.{values_in}
use Rattle.value_text.proofs.States.{values_snoc, below_made, joined_step, grows_more, grows_none, below_more_cells}
use Rattle.value_text.proofs.cells.join.Goals as goal

pub add_cell-requires-clause-earlier : goal.add_cell-requires-clause-earlier
add_cell-requires-clause-earlier c =
    let head = (c.pop-head.ensures.earlier (length c.loop-left.heap.cells) c.loop-left.invariant.words).1 in
    let tail = c.loop-left.invariant.tail in
    search rules

pub loop-left-preserved : goal.loop-left-preserved
loop-left-preserved c =
    let n = length c.loop-left.heap.cells in
    let hs = held c.loop-left.heap.cells in
    let inv = c.loop-left.invariant in
    let one = c.pop-head.ensures.earlier n inv.words in
    let g = c.in_ok-tail.ensures.grows in
    let some = c.loop-left-test.true in
    let count = inv.count in
    let more = c.in_ok-tail.ensures.count in
    record {
      value = joined_step c.loop-left.heap.cells c.add_cell.new.heap.cells c.loop-left.words.items c.pop-head.new.words.items c.pop-head.result c.loop-left.tail c.in_ok-tail.tail c.loop-left.left (c.loop-left.left - 1) _ (omega (arith, some)) inv.value (c.pop-head.ensures.top hs) (c.pop-head.ensures.below hs) c.in_ok-tail.ensures.value g one.0;
      words = below_more_cells c.loop-left.heap.cells c.add_cell.new.heap.cells c.pop-head.new.words.items g one.0;
      tail = c.in_ok-tail.ensures.below;
      count = omega (arith, count, more, some);
      grows = grows_more _ _ _ inv.grows g;
    }

pub returns-clause-value : goal.returns-clause-value
returns-clause-value c =
    let hs = held c.loop-left.heap.cells in
    let none = c.loop-left-test.false in
    let zero : c.loop-left.left ≡ 0 = omega (arith, none) in
    ap (λ l. values_in hs l []) c.in_ok-push.ensures.items ∙ values_snoc hs c.loop-left.words.items c.loop-left.tail []
    ∙ ap (λ n. joined n (values_in hs c.loop-left.words.items []) (value_of hs c.loop-left.tail)) (sym zero) ∙ c.loop-left.invariant.value

pub returns-clause-below : goal.returns-clause-below
returns-clause-below c = below_made _ _ _ _ _ (grows_none c.loop-left.heap.cells) c.loop-left.invariant.words c.loop-left.invariant.tail c.in_ok-push.ensures.items
