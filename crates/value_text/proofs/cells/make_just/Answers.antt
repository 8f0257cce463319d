use Rattle.std.proofs.Common.{[], ◌∙◌, length}
use Rattle.value_text.specs.Held.{held}
use Rattle.value_text.specs.State.{values_in}
use Rattle.value_text.proofs.States.{made_is, below_made, justed_is}
use Rattle.value_text.proofs.cells.make_just.Goals as goal

pub add_cell-requires-clause-earlier : goal.add_cell-requires-clause-earlier
add_cell-requires-clause-earlier c = (c.pop-content.ensures.earlier (length c.args.heap.now.cells) c.requires.words).1

pub returns-clause-value : goal.returns-clause-value
returns-clause-value c =
    let hs = held c.args.heap.now.cells in
    let one = c.pop-content.ensures.earlier (length c.args.heap.now.cells) c.requires.words in
    made_is _ _ _ _ _ _ c.in_ok-word.ensures.grows c.in_ok-word.ensures.value one.0 c.in_ok-push.ensures.items
    ∙ justed_is (values_in hs c.args.words.now.items []) (values_in hs c.pop-content.new.words.items []) _ (c.pop-content.ensures.top hs) (c.pop-content.ensures.below hs)

pub returns-clause-below : goal.returns-clause-below
returns-clause-below c =
    let one = c.pop-content.ensures.earlier (length c.args.heap.now.cells) c.requires.words in
    below_made _ _ _ _ _ c.in_ok-word.ensures.grows one.0 c.in_ok-word.ensures.below c.in_ok-push.ensures.items
