use Rattle.std.proofs.Common.{[], ◌∙◌, length}
use Rattle.value_text.specs.Held.{held}
use Rattle.value_text.specs.State.{values_in}
use Rattle.value_text.proofs.States.{made_is, below_made, noded_is}
use Rattle.value_text.proofs.cells.make_node.Goals as goal

pub add_cell-requires-clause-earlier : goal.add_cell-requires-clause-earlier
add_cell-requires-clause-earlier c =
    let n = length c.args.heap.now.cells in
    let one = c.pop-right.ensures.earlier n c.requires.words in
    let two = c.pop-left.ensures.earlier n one.0 in
    ((c.pop-item.ensures.earlier n two.0).1, two.1, one.1)

pub returns-clause-value : goal.returns-clause-value
returns-clause-value c =
    let n = length c.args.heap.now.cells in
    let hs = held c.args.heap.now.cells in
    let one = c.pop-right.ensures.earlier n c.requires.words in
    let two = c.pop-left.ensures.earlier n one.0 in
    let three = c.pop-item.ensures.earlier n two.0 in
    made_is _ _ _ _ _ _ c.in_ok-word.ensures.grows c.in_ok-word.ensures.value three.0 c.in_ok-push.ensures.items
    ∙ noded_is (values_in hs c.args.words.now.items []) (values_in hs c.pop-right.new.words.items []) (values_in hs c.pop-left.new.words.items []) (values_in hs c.pop-item.new.words.items []) _ _ _ (c.pop-right.ensures.top hs) (c.pop-right.ensures.below hs) (c.pop-left.ensures.top hs) (c.pop-left.ensures.below hs) (c.pop-item.ensures.top hs) (c.pop-item.ensures.below hs)

pub returns-clause-below : goal.returns-clause-below
returns-clause-below c =
    let n = length c.args.heap.now.cells in
    let one = c.pop-right.ensures.earlier n c.requires.words in
    let two = c.pop-left.ensures.earlier n one.0 in
    let three = c.pop-item.ensures.earlier n two.0 in
    below_made _ _ _ _ _ c.in_ok-word.ensures.grows three.0 c.in_ok-word.ensures.below c.in_ok-push.ensures.items
