use Rattle.metered_vm.proofs.Acting.{both_below, sound_stack}
use Rattle.metered_vm.proofs.acts.pair.Goals as goal

pub push_cell-requires-clause-sound : goal.push_cell-requires-clause-sound
push_cell-requires-clause-sound c = sound_stack c.args.m.now _ c.requires.sound (both_below _ _ _ _ _ _ c.pop-second.ensures.items c.pop-first.ensures.items c.requires.sound.stack).0

pub push_cell-requires-clause-names : goal.push_cell-requires-clause-names
push_cell-requires-clause-names c = let both = both_below _ _ _ _ _ _ c.pop-second.ensures.items c.pop-first.ensures.items c.requires.sound.stack in (both.1, both.2)
