use Rattle.std.proofs.Common.{refl, subst}
use Rattle.value_text.specs.Held.{held}
use Rattle.stack_compile.specs.Ready.{TopIs, IsOption}
use Rattle.stack_compile.specs.declared.instr.Instr.TheVariants as i
use Rattle.metered_vm.proofs.Lists.{below_last_is}
use Rattle.metered_vm.proofs.Acting.{popped_is, bound_none, bound_next, taken, sound_taken}
use Rattle.metered_vm.proofs.acts.case_option.Goals as goal

pub content-requires-clause-option : goal.content-requires-clause-option
content-requires-clause-option c = subst (TopIs IsOption) (popped_is (held c.args.m.now.heap.cells) _ _ c.pop-word.result c.pop-word.ensures.items) c.requires.finds

pub content-requires-clause-below : goal.content-requires-clause-below
content-requires-clause-below c = below_last_is _ _ _ _ c.pop-word.ensures.items c.requires.sound.stack

pub returns-in-Some-clause-does : goal.returns-in-Some-clause-does
returns-in-Some-clause-does c =
    let x = c.args.m.now in
    let h = c.requires.sound in
    taken (i.CaseOption c.args.to) x _ _ _ _ _ _ _ c.pop-word.ensures.items c.in-Some.ensures.0 (bound_next x h _ _ _ _ c.put.ensures.items c.in-Some.ensures.1 (bound_none x h _ c.reserve.ensures.items)) refl

pub returns-in-Some-clause-sound : goal.returns-in-Some-clause-sound
returns-in-Some-clause-sound c =
    let x = c.args.m.now in
    let h = c.requires.sound in
    sound_taken x h _ _ _ _ c.pop-word.ensures.items (bound_next x h _ _ _ _ c.put.ensures.items c.in-Some.ensures.1 (bound_none x h _ c.reserve.ensures.items))

pub returns-in-None-clause-does : goal.returns-in-None-clause-does
returns-in-None-clause-does c =
    let x = c.args.m.now in
    taken (i.CaseOption c.args.to) x _ _ _ _ _ _ _ c.pop-word.ensures.items c.in-None.ensures (bound_none x c.requires.sound _ c.reserve.ensures.items) refl

pub returns-in-None-clause-sound : goal.returns-in-None-clause-sound
returns-in-None-clause-sound c =
    let x = c.args.m.now in
    sound_taken x c.requires.sound _ _ _ _ c.pop-word.ensures.items (bound_none x c.requires.sound _ c.reserve.ensures.items)
