use Rattle.std.proofs.Common.{refl, subst}
use Rattle.value_text.specs.Held.{held}
use Rattle.stack_compile.specs.Ready.{TopIs, IsList}
use Rattle.stack_compile.specs.declared.instr.Instr.TheVariants as i
use Rattle.metered_vm.proofs.Lists.{below_last_is}
use Rattle.metered_vm.proofs.Acting.{popped_is, bound_both, bound_none, taken, sound_taken}
use Rattle.metered_vm.proofs.acts.case_list.Goals as goal

pub list_parts-requires-clause-list : goal.list_parts-requires-clause-list
list_parts-requires-clause-list c = subst (TopIs IsList) (popped_is (held c.args.m.now.heap.cells) _ _ c.pop-word.result c.pop-word.ensures.items) c.requires.finds

pub list_parts-requires-clause-below : goal.list_parts-requires-clause-below
list_parts-requires-clause-below c = below_last_is _ _ _ _ c.pop-word.ensures.items c.requires.sound.stack

pub returns-in-Some-clause-does : goal.returns-in-Some-clause-does
returns-in-Some-clause-does c =
    let x = c.args.m.now in
    let h = c.requires.sound in
    let two = bound_both x h _ _ _ _ _ c.reserve.ensures.items c.put.ensures.items c.put-in-Some.ensures.items c.in-Some.ensures.1 c.in-Some.ensures.2 in
    taken (i.CaseList c.args.to) x _ _ _ _ _ _ _ c.pop-word.ensures.items c.in-Some.ensures.0 two refl

pub returns-in-Some-clause-sound : goal.returns-in-Some-clause-sound
returns-in-Some-clause-sound c =
    let x = c.args.m.now in
    let h = c.requires.sound in
    let two = bound_both x h _ _ _ _ _ c.reserve.ensures.items c.put.ensures.items c.put-in-Some.ensures.items c.in-Some.ensures.1 c.in-Some.ensures.2 in
    sound_taken x h _ _ _ _ c.pop-word.ensures.items two

pub returns-in-None-clause-does : goal.returns-in-None-clause-does
returns-in-None-clause-does c =
    let x = c.args.m.now in
    taken (i.CaseList c.args.to) x _ _ _ _ _ _ _ c.pop-word.ensures.items c.in-None.ensures (bound_none x c.requires.sound _ c.reserve.ensures.items) refl

pub returns-in-None-clause-sound : goal.returns-in-None-clause-sound
returns-in-None-clause-sound c =
    let x = c.args.m.now in
    sound_taken x c.requires.sound _ _ _ _ c.pop-word.ensures.items (bound_none x c.requires.sound _ c.reserve.ensures.items)
