use Rattle.metered_vm.proofs.Lists.{below_init_is}
use Rattle.metered_vm.proofs.Acting.{sound_stack}
use Rattle.metered_vm.proofs.acts.some.Goals as goal

pub push_cell-requires-clause-sound : goal.push_cell-requires-clause-sound
push_cell-requires-clause-sound c = sound_stack c.args.m.now _ c.requires.sound (below_init_is _ _ _ _ c.pop-content.ensures.items c.requires.sound.stack)
