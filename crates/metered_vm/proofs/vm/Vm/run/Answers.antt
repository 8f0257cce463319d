use Rattle.std.proofs.Common.{ap, length, subst, sym, ◌∙◌}
use Rattle.std.specs.Prelude.{IfOk, IfSome}
use Rattle.value_text.specs.Heap.{IsBelow}
use Rattle.metered_vm.specs.Stepping.{word_of}
use Rattle.metered_vm.specs.Seen.{Kept, GoesOn}
use Rattle.metered_vm.specs.Ending.{HasHalted, Ended}
use Rattle.metered_vm.specs.Keeping.{Holds, seen_of}
use Rattle.metered_vm.proofs.Keeping.{seen, has_halted, ready, ended, kept, holds, goes_on}
use Rattle.metered_vm.proofs.vm.Vm.run.Goals as goal

pub returns-in-Some-clause-ends : goal.returns-in-Some-clause-ends
returns-in-Some-clause-ends c =
    let v = c.self.inside in
    let h = c.self.invariant in
    let below = subst (λ o. IfSome o (IsBelow (length v.machine.heap.cells))) c.in-Some.is h.word in
    subst (HasHalted c.in-Some.word) c.self.view_is (has_halted (seen_of v) c.in-Some.word h.kept c.in-Some.is h.sound.earlier below)

pub run-outcome-requires-clause-ready : goal.run-outcome-requires-clause-ready
run-outcome-requires-clause-ready c =
    let v = c.self.inside in
    let before = subst (λ w. Holds (seen v.code.now v.fun.0 v.args.items w v.machine)) c.in_default.is c.self.invariant in
    ready v.code.now v.fun.0 v.args.items v.machine before

pub invariant_of-self : goal.invariant_of-self
invariant_of-self c =
    let v = c.self.inside in
    let before = subst (λ w. Holds (seen v.code.now v.fun.0 v.args.items w v.machine)) c.in_default.is c.self.invariant in
    let done = c.run-outcome.ensures in
    let after = holds v.code.now v.fun.0 v.args.items v.machine before c.run-outcome.new.m c.args.steps c.run-outcome.result done.state done.goes done.sound done.ends in
    subst (λ w. Holds (seen v.code.now v.fun.0 v.args.items w c.run-outcome.new.m)) (sym c.halted_word-self-inside.ensures) after

pub returns-clause-ends : goal.returns-clause-ends
returns-clause-ends c =
    let v = c.self.inside in
    let before = subst (λ w. Holds (seen v.code.now v.fun.0 v.args.items w v.machine)) c.in_default.is c.self.invariant in
    let done = c.run-outcome.ensures in
    let r = c.run-outcome.result in
    let y = c.run-outcome.new.m in
    let after = kept v.code.now v.fun.0 v.args.items v.machine before y c.args.steps r done.state done.goes done.sound done.ends in
    let ends = ended v.code.now v.fun.0 v.args.items y c.args.steps r after done.sound done.ends in
    subst (λ w. IfOk r (λ end. Ended c.args.steps end (seen v.code.now v.fun.0 v.args.items w y))) (sym c.halted_word-self-inside.ensures) ends

pub returns-clause-goes : goal.returns-clause-goes
returns-clause-goes c =
    let v = c.self.inside in
    let before = subst (λ w. Holds (seen v.code.now v.fun.0 v.args.items w v.machine)) c.in_default.is c.self.invariant in
    let done = c.run-outcome.ensures in
    let r = c.run-outcome.result in
    let y = c.run-outcome.new.m in
    let old = ap (λ w. seen v.code.now v.fun.0 v.args.items w v.machine) (sym c.in_default.is) ∙ c.self.view_is in
    let word = sym c.halted_word-self-inside.ensures in
    let goes = goes_on v.code.now v.fun.0 v.args.items v.machine before y c.args.steps r done.state done.goes done.sound done.ends in
    subst (λ w. GoesOn c.args.steps c.args.self.now (seen v.code.now v.fun.0 v.args.items w y)) word
    (subst (λ s. GoesOn c.args.steps s (seen v.code.now v.fun.0 v.args.items (word_of r) y)) old goes)

pub returns-clause-kept : goal.returns-clause-kept
returns-clause-kept c =
    let v = c.self.inside in
    let before = subst (λ w. Holds (seen v.code.now v.fun.0 v.args.items w v.machine)) c.in_default.is c.self.invariant in
    let done = c.run-outcome.ensures in
    let after = kept v.code.now v.fun.0 v.args.items v.machine before c.run-outcome.new.m c.args.steps c.run-outcome.result done.state done.goes done.sound done.ends in
    subst (λ w. Kept (seen v.code.now v.fun.0 v.args.items w c.run-outcome.new.m)) (sym c.halted_word-self-inside.ensures) after
