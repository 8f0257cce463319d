use Rattle.std.proofs.Common.{◌+◌, [], length, refl, ap, subst, sym, ◌∙◌, arith, length-take}
use Rattle.value_text.specs.Held.{value_of, held}
use Rattle.stack_compile.specs.Machine.{Going}
use Rattle.stack_compile.specs.declared.instr.Instr.TheVariants as i
use Rattle.metered_vm.specs.Running.{state, stack_in, locals_in, values_of, frames_of, AllBelow, Sound}
use Rattle.metered_vm.specs.Moving.{acts}
use Rattle.metered_vm.proofs.Lists.{below_take, below_init_is, below_last_is}
use Rattle.metered_vm.proofs.Acting.{same, popped_is, sound_stack}
use Rattle.metered_vm.proofs.Calling.{sum, left_frames, no_frames, halted_same}
use Rattle.metered_vm.proofs.calls.leave.Goals as goal

pub overflow_sub-m : goal.overflow_sub-m
overflow_sub-m c =
    let x = c.args.m.now in
    let h = c.requires.sound in
    omega (arith, sum (held x.heap.cells) c.in-Some.frame x.base x.locals.items _ _ _ c.in-Some.ensures.items h.base h.within c.truncate.ensures.items)

pub returns-in-Some-clause-does : goal.returns-in-Some-clause-does
returns-in-Some-clause-does c =
    let x = c.args.m.now in
    let h = c.requires.sound in
    let frames = left_frames (held x.heap.cells) c.in-Some.frame x.base x.locals.items _ _ _ c.in-Some.ensures.items h.base h.within c.truncate.ensures.items in
    same _ _ _ _ _ _ _ _ _ _ _ refl refl refl ∙ ap (λ fs. acts i.Return (state (Going x.fun.0 x.place (stack_in x) (locals_in x) fs) x.ticks x.cells x.made)) (sym frames)

pub returns-in-Some-clause-sound : goal.returns-in-Some-clause-sound
returns-in-Some-clause-sound c =
    let x = c.args.m.now in
    let h = c.requires.sound in
    let n = length x.heap.cells in
    let whole = sum (held x.heap.cells) c.in-Some.frame x.base x.locals.items _ _ _ c.in-Some.ensures.items h.base h.within c.truncate.ensures.items in
    record {
      earlier = h.earlier;
      stack = h.stack;
      locals = subst (AllBelow n) (sym c.truncate.ensures.items) (below_take n _ _ h.locals);
      base = omega (arith, whole);
      within = omega (arith, ap length c.truncate.ensures.items, length-take x.base x.locals.items, h.within);
      taken = h.taken;
      spare = h.spare;
    }

pub returns-in-None-clause-does : goal.returns-in-None-clause-does
returns-in-None-clause-does c =
    let x = c.args.m.now in
    let hs = held x.heap.cells in
    let none = no_frames x.frames.items (omega (arith, c.in-None.ensures.cases, x.frames.ok.0)) in
    let st = popped_is hs _ _ c.pop-in-None.result c.pop-in-None.ensures.items in
    halted_same (value_of hs c.pop-in-None.result) x.ticks x.cells (x.made + 1)
    ∙ ap (λ l. acts i.Return (state (Going x.fun.0 x.place l (locals_in x) []) x.ticks x.cells x.made)) (sym st)
    ∙ ap (λ gs. acts i.Return (state (Going x.fun.0 x.place (stack_in x) (locals_in x) (frames_of (values_of hs x.locals.items) gs [])) x.ticks x.cells x.made)) (sym none)

pub returns-in-None-clause-word : goal.returns-in-None-clause-word
returns-in-None-clause-word c = below_last_is _ _ _ _ c.pop-in-None.ensures.items c.requires.sound.stack

pub returns-in-None-clause-sound : goal.returns-in-None-clause-sound
returns-in-None-clause-sound c =
    let x = c.args.m.now in
    let old = no_frames x.frames.items (omega (arith, c.in-None.ensures.cases, x.frames.ok.0)) in
    let new = no_frames c.pop.new.self.items (omega (arith, c.in-None.ensures.cases, c.pop.new.self.ok.0)) in
    let left = below_init_is _ _ _ _ c.pop-in-None.ensures.items c.requires.sound.stack in
    subst (λ gs. Sound x.heap c.pop-in-None.new.stack.items x.locals.items x.base gs x.cells x.limit) (old ∙ sym new) (sound_stack x _ c.requires.sound left)
