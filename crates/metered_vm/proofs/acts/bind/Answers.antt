use Rattle.std.proofs.Common.{refl}
use Rattle.stack_compile.specs.declared.instr.Instr.TheVariants as i
use Rattle.metered_vm.proofs.Lists.{below_last_is}
use Rattle.metered_vm.proofs.Acting.{bound_none, bound_next, taken}
use Rattle.metered_vm.proofs.acts.bind.Goals as goal

pub returns-clause-does : goal.returns-clause-does
returns-clause-does c =
    let x = c.args.m.now in
    let h = c.requires.sound in
    let below = below_last_is _ _ _ _ c.pop-word.ensures.items h.stack in
    taken i.Bind x _ _ _ _ _ _ _ c.pop-word.ensures.items refl (bound_next x h _ _ _ _ c.put.ensures.items below (bound_none x h _ c.reserve.ensures.items)) refl
