use Rattle.std.proofs.Common.{refl, subst}
use Rattle.value_text.specs.Held.{held}
use Rattle.stack_compile.specs.Ready.{TopIs, IsTree}
use Rattle.stack_compile.specs.declared.instr.Instr.TheVariants as i
use Rattle.metered_vm.proofs.Lists.{below_last_is}
use Rattle.metered_vm.proofs.Acting.{popped_is, bound_none, bound_next, bound_both, taken, sound_taken}
use Rattle.metered_vm.proofs.acts.case_tree.Goals as goal

pub tree_parts-requires-clause-tree : goal.tree_parts-requires-clause-tree
tree_parts-requires-clause-tree c = subst (TopIs IsTree) (popped_is (held c.args.m.now.heap.cells) _ _ c.pop-word.result c.pop-word.ensures.items) c.requires.finds

pub tree_parts-requires-clause-below : goal.tree_parts-requires-clause-below
tree_parts-requires-clause-below c = below_last_is _ _ _ _ c.pop-word.ensures.items c.requires.sound.stack

pub returns-in-Some-clause-does : goal.returns-in-Some-clause-does
returns-in-Some-clause-does c =
    let x = c.args.m.now in
    let h = c.requires.sound in
    let two = bound_both x h _ _ _ _ _ c.reserve.ensures.items c.put.ensures.items c.put-in-Some.ensures.items c.in-Some.ensures.1 c.in-Some.ensures.2 in
    let three = bound_next x h _ _ _ _ c.put-in-Some-2.ensures.items c.in-Some.ensures.3 two in
    taken (i.CaseTree c.args.to) x _ _ _ _ _ _ _ c.pop-word.ensures.items c.in-Some.ensures.0 three refl

pub returns-in-Some-clause-sound : goal.returns-in-Some-clause-sound
returns-in-Some-clause-sound c =
    let x = c.args.m.now in
    let h = c.requires.sound in
    let two = bound_both x h _ _ _ _ _ c.reserve.ensures.items c.put.ensures.items c.put-in-Some.ensures.items c.in-Some.ensures.1 c.in-Some.ensures.2 in
    let three = bound_next x h _ _ _ _ c.put-in-Some-2.ensures.items c.in-Some.ensures.3 two in
    sound_taken x h _ _ _ _ c.pop-word.ensures.items three

pub returns-in-None-clause-does : goal.returns-in-None-clause-does
returns-in-None-clause-does c =
    let x = c.args.m.now in
    taken (i.CaseTree c.args.to) x _ _ _ _ _ _ _ c.pop-word.ensures.items c.in-None.ensures (bound_none x c.requires.sound _ c.reserve.ensures.items) refl

pub returns-in-None-clause-sound : goal.returns-in-None-clause-sound
returns-in-None-clause-sound c =
    let x = c.args.m.now in
    sound_taken x c.requires.sound _ _ _ _ c.pop-word.ensures.items (bound_none x c.requires.sound _ c.reserve.ensures.items)
