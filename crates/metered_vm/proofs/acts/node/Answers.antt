use Rattle.metered_vm.proofs.Lists.{below_init_is, below_last_is}
use Rattle.metered_vm.proofs.Acting.{both_below, sound_stack}
use Rattle.metered_vm.proofs.acts.node.Goals as goal

pub push_cell-requires-clause-sound : goal.push_cell-requires-clause-sound
push_cell-requires-clause-sound c =
    let both = both_below _ _ _ _ _ _ c.pop-right.ensures.items c.pop-left.ensures.items c.requires.sound.stack in
    sound_stack c.args.m.now _ c.requires.sound (below_init_is _ _ _ _ c.pop-element.ensures.items both.0)

pub push_cell-requires-clause-names : goal.push_cell-requires-clause-names
push_cell-requires-clause-names c =
    let both = both_below _ _ _ _ _ _ c.pop-right.ensures.items c.pop-left.ensures.items c.requires.sound.stack in
    (below_last_is _ _ _ _ c.pop-element.ensures.items both.0, both.1, both.2)
