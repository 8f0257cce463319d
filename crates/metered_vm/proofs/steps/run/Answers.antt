use Rattle.std.proofs.Common.{◌∙◌, ◌+◌, ◌-◌, List, sym, ap, subst}
use Rattle.raml_syntax.specs.Read.{program_of}
use Rattle.raml_syntax.specs.declared.program.FunId.{FunId}
use Rattle.std.specs.Borrow.{Bor}
use Rattle.stack_compile.specs.declared.instr.Instr.{Instr}
use Rattle.stack_compile.specs.Code.{bodies_of}
use Rattle.stack_compile.specs.Machine.{State}
use Rattle.stack_compile.specs.Read.{code_at}
use Rattle.stack_compile.specs.Ready.{Ready}
use Rattle.metered_vm.proofs.Going.{after_more, goes_on}
use Rattle.metered_vm.proofs.steps.run.Goals.{in-Made, in-Moved}
use Rattle.metered_vm.proofs.steps.run.Goals as goal

pub body-current-requires : goal.body-current-requires
body-current-requires c = c.requires.ready 0

pub body-current-requires-in-Moved : goal.body-current-requires-in-Moved
body-current-requires-in-Moved c =
    let code = bodies_of (program_of c.args.code.now) in
    let inv = c.loop-m.invariant in
    let does = rw c.in-Moved.is at c.in_ok-step.ensures.does in
    let g = goes_on code c.args.steps c.args.m.now c.loop-m.m c.step.new.m inv.state inv.goes c.loop-m-test.true does.0 does.1 in
    subst (λ (s : State). Ready code s.at) (sym g.0) (c.requires.ready (c.step.new.m.made + 1 - c.args.m.now.made))

pub loop-m-preserved : goal.loop-m-preserved
loop-m-preserved c =
    let code = bodies_of (program_of c.args.code.now) in
    let inv = c.loop-m.invariant in
    let goes = goes_on code c.args.steps c.args.m.now c.loop-m.m c.step.new.m inv.state inv.goes c.loop-m-test.true in
    let sound = c.in_ok-step.ensures.sound in
    elim c.match-branch-2.branch [
      | in-Made w ↦
          let does = rw w.in-Made.is at c.in_ok-step.ensures.does in
          let g = goes does.0 does.1 in
          record { state = g.0; goes = g.1; sound = sound; body = ap (λ (b : Bor (List Instr)). b.now) w.current-is ∙ inv.body ∙ ap (λ (f : FunId). code_at code f.0) (sym does.2) }
      | in-Moved w ↦
          let does = rw w.in-Moved.is at c.in_ok-step.ensures.does in
          let g = goes does.0 does.1 in
          record { state = g.0; goes = g.1; sound = sound; body = ap (λ (b : Bor (List Instr)). b.now) w.current-is ∙ w.body-current-in-Moved.ensures }
    ]

pub returns-in-Halted-clause-state : goal.returns-in-Halted-clause-state
returns-in-Halted-clause-state c =
    let code = bodies_of (program_of c.args.code.now) in
    let inv = c.loop-m.invariant in
    let does = rw c.in-Halted.is at c.in_ok-step.ensures.does in
    after_more code _ _ _ c.args.m.now.made c.loop-m.m.made (c.step.new.m.made + 1) inv.goes.0 (ap (λ n. n + 1) does.1.0) inv.state does.0
