use Rattle.std.proofs.Common.{length}
use Rattle.metered_vm.proofs.Acting.{replaced_below, sound_stack}
use Rattle.metered_vm.proofs.acts.compare.Goals as goal

pub returns-clause-sound : goal.returns-clause-sound
returns-clause-sound c =
    let x = c.args.m.now in
    let below = replaced_below (length x.heap.cells) _ _ x.stack.items _ _ _ _ c.requires.sound.stack c.number-right.ensures.items c.number-left.ensures.items c.put.ensures.items tt in
    sound_stack x _ c.requires.sound below
