use Rattle.std.proofs.Common.{ap, length, subst, sym, ◌∙◌}
use Rattle.stack_compile.specs.Machine.{start}
use Rattle.value_text.specs.Held.{held}
use Rattle.metered_vm.specs.Running.{values_of, AllBelow}
use Rattle.metered_vm.proofs.Keeping.{all_below, begins_first, kept_first, holds_first}
use Rattle.metered_vm.proofs.vm.Vm.new.Goals as goal

pub new-requires-clause-below : goal.new-requires-clause-below
new-requires-clause-below c =
    let has = c.requires.arguments in
    subst (AllBelow (length c.args.heap.cells)) (sym c.deref.ensures.value) (all_below c.args.heap.cells c.args.args.items has.values has.stand)

pub invariant_of-result : goal.invariant_of-result
invariant_of-result c =
    let x = c.in_ok-machine.machine in
    let is = c.in_ok-machine.ensures in
    let begins = is.state ∙ ap (λ l. start c.args.fun.0 (values_of (held x.heap.cells) l)) c.deref.ensures.value in
    holds_first c.args.code.now c.args.fun.0 c.args.args.items x c.args.heap.cells c.requires.arguments is.heap is.sound begins c.program.ensures.typed c.program.ensures.numbers

pub returns-clause-begins : goal.returns-clause-begins
returns-clause-begins c =
    let x = c.in_ok-machine.machine in
    let is = c.in_ok-machine.ensures in
    let begins = is.state ∙ ap (λ l. start c.args.fun.0 (values_of (held x.heap.cells) l)) c.deref.ensures.value in
    begins_first c.args.code.now c.args.fun.0 c.args.args.items x c.args.heap.cells c.requires.arguments is.heap is.sound begins c.args.cells is.limit

pub returns-clause-kept : goal.returns-clause-kept
returns-clause-kept c =
    let x = c.in_ok-machine.machine in
    let is = c.in_ok-machine.ensures in
    let begins = is.state ∙ ap (λ l. start c.args.fun.0 (values_of (held x.heap.cells) l)) c.deref.ensures.value in
    kept_first c.args.code.now c.args.fun.0 c.args.args.items x c.args.heap.cells c.requires.arguments is.heap is.sound begins c.program.ensures.typed c.program.ensures.numbers
