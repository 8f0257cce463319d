use Rattle.std.proofs.Common.{◌+◌, [], drop, arith}
use Rattle.stack_compile.specs.Machine.{Going}
use Rattle.metered_vm.specs.Running.{state, frames_of}
use Rattle.metered_vm.proofs.Acting.{celled}
use Rattle.metered_vm.proofs.acts.push_cell.Goals as goal

pub returns-clause-does : goal.returns-clause-does
returns-clause-does c =
    let x = c.args.m.now in
    let h = c.requires.sound in
    let new = celled x.heap.cells _ c.args.cell x.stack.items _ x.locals.items c.add-number.result h.earlier h.stack h.locals c.requires.names c.add-number.ensures.cells c.add-number.ensures.number c.put.ensures.items in
    λ i. state (Going x.fun.0 (x.place + 1) (new.stack i) (drop x.base (new.locals i)) (frames_of (new.locals i) x.frames.items [])) x.ticks (x.cells + 1) x.made

pub returns-clause-sound : goal.returns-clause-sound
returns-clause-sound c =
    let x = c.args.m.now in
    let h = c.requires.sound in
    let new = celled x.heap.cells _ c.args.cell x.stack.items _ x.locals.items c.add-number.result h.earlier h.stack h.locals c.requires.names c.add-number.ensures.cells c.add-number.ensures.number c.put.ensures.items in
    record {
      earlier = new.earlier;
      stack = new.stack_below;
      locals = new.locals_below;
      base = h.base;
      within = h.within;
      taken = omega (arith, c.requires.free);
      spare = omega (arith, h.spare, c.add-number.ensures.spare);
    }
