use Rattle.std.proofs.Common.{refl, subst}
use Rattle.value_text.specs.Held.{held}
use Rattle.stack_compile.specs.Ready.{TopIs, IsPair}
use Rattle.stack_compile.specs.declared.instr.Instr.TheVariants as i
use Rattle.metered_vm.proofs.Lists.{below_last_is}
use Rattle.metered_vm.proofs.Acting.{popped_is, bound_both, taken, sound_taken}
use Rattle.metered_vm.proofs.acts.unpair.Goals as goal

pub pair_parts-first-requires-clause-pair : goal.pair_parts-first-requires-clause-pair
pair_parts-first-requires-clause-pair c = subst (TopIs IsPair) (popped_is (held c.args.m.now.heap.cells) _ _ c.pop-word.result c.pop-word.ensures.items) c.requires.finds

pub pair_parts-first-requires-clause-below : goal.pair_parts-first-requires-clause-below
pair_parts-first-requires-clause-below c = below_last_is _ _ _ _ c.pop-word.ensures.items c.requires.sound.stack

pub returns-clause-does : goal.returns-clause-does
returns-clause-does c =
    let x = c.args.m.now in
    let h = c.requires.sound in
    let two = bound_both x h _ _ _ _ _ c.reserve.ensures.items c.put.ensures.items c.put-2.ensures.items c.pair_parts-first.ensures.1 c.pair_parts-first.ensures.2 in
    taken i.Unpair x _ _ _ _ _ _ _ c.pop-word.ensures.items c.pair_parts-first.ensures.0 two refl

pub returns-clause-sound : goal.returns-clause-sound
returns-clause-sound c =
    let x = c.args.m.now in
    let h = c.requires.sound in
    let two = bound_both x h _ _ _ _ _ c.reserve.ensures.items c.put.ensures.items c.put-2.ensures.items c.pair_parts-first.ensures.1 c.pair_parts-first.ensures.2 in
    sound_taken x h _ _ _ _ c.pop-word.ensures.items two
