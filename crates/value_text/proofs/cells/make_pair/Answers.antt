use Rattle.std.proofs.Common.{[], ◌∙◌, length}
use Rattle.value_text.specs.Held.{held}
use Rattle.value_text.specs.State.{values_in}
use Rattle.value_text.proofs.States.{made_is, below_made, paired_is}
use Rattle.value_text.proofs.cells.make_pair.Goals as goal

pub add_cell-requires-clause-earlier : goal.add_cell-requires-clause-earlier
add_cell-requires-clause-earlier c =
    let n = length c.args.heap.now.cells in
    let one = c.pop-second.ensures.earlier n c.requires.words in
    ((c.pop-first.ensures.earlier n one.0).1, one.1)

pub returns-clause-value : goal.returns-clause-value
returns-clause-value c =
    let n = length c.args.heap.now.cells in
    let hs = held c.args.heap.now.cells in
    let one = c.pop-second.ensures.earlier n c.requires.words in
    let two = c.pop-first.ensures.earlier n one.0 in
    made_is _ _ _ _ _ _ c.in_ok-word.ensures.grows c.in_ok-word.ensures.value two.0 c.in_ok-push.ensures.items
    ∙ paired_is (values_in hs c.args.words.now.items []) (values_in hs c.pop-second.new.words.items []) (values_in hs c.pop-first.new.words.items []) _ _ (c.pop-second.ensures.top hs) (c.pop-second.ensures.below hs) (c.pop-first.ensures.top hs) (c.pop-first.ensures.below hs)

pub returns-clause-below : goal.returns-clause-below
returns-clause-below c =
    let n = length c.args.heap.now.cells in
    let one = c.pop-second.ensures.earlier n c.requires.words in
    let two = c.pop-first.ensures.earlier n one.0 in
    below_made _ _ _ _ _ c.in_ok-word.ensures.grows two.0 c.in_ok-word.ensures.below c.in_ok-push.ensures.items
