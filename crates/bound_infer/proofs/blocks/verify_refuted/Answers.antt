use Rattle.std.proofs.Common.{refl, sym, subst, arith, rules, FitsSigned}
use Rattle.std.specs.Int.{w128}
use Rattle.std.proofs.lemmas.Int.{to_z-of_z}
use Rattle.cost_free.specs.Read.{task_of}
use Rattle.annot_types.specs.Program.{results}
use Rattle.annot_types.specs.Certificate.{has_work}
use Rattle.annot_types.specs.Held.{before, done_before}
use Rattle.annot_types.specs.Read.{certificate_of}
use Rattle.annot_types.specs.System.{system}
use Rattle.rules_spec.specs.Systems.{IsTask}
use Rattle.infer_spec.specs.Generator.{limit_of}
use Rattle.infer_spec.specs.Verifying as v
use Rattle.infer_systems_laws.specs.Analysed.{generator_of}
use Rattle.rules_plan.specs.Read.{program_in}
use Rattle.cert_check.proofs.Tasks.{task_is_low}
use Rattle.bound_infer.specs.Cleared.{IsClear, OfFault, fault_of}
use Rattle.bound_infer.proofs.Blocked.{faulty}
use Rattle.bound_infer.proofs.blocks.verify_refuted.Goals as goal

pub check_refuted-requires-clause-budget : goal.check_refuted-requires-clause-budget
check_refuted-requires-clause-budget c =
    let P = program_in c.args.program.now in
    let held = certificate_of c.args.certificate.now in
    let task = task_of c.args.task.now in
    let block = c.requires.held.blocks c.args.number _ c.requires.there in
    let low = task_is_low (results P) P.groups held.degree (has_work held) (done_before held c.args.number) task block.task in
    omega (arith, low, c.requires.held.most_degree)

pub check_refuted-requires-clause-rise : goal.check_refuted-requires-clause-rise
check_refuted-requires-clause-rise c = (c.requires.held.blocks c.args.number _ c.requires.there).shape

pub returns-in-Ok : goal.returns-in-Ok
returns-in-Ok c = λ r.
    let P = program_in c.args.program.now in
    let held = certificate_of c.args.certificate.now in
    let task = task_of c.args.task.now in
    let d = held.degree in
    let earlier = before held c.args.number in
    let is = c.scale_for-scale.ensures.is in
    let fits : FitsSigned w128 c.scale_for-scale.result = search rules in
    let checked = simp (to_z-of_z w128 _ fits) at c.in-Ok.ensures in
    let ready = c.refuted_are_tasks.ensures P c.requires.ordered held c.requires.held c.args.number _ c.args.farkas.now c.requires.there refl in
    subst (λ n. IsClear (limit_of (generator_of P d) task (system P d earlier task n)) (system P d earlier task n) c.args.farkas.now) is
    (checked earlier r (subst (IsTask P d earlier task) (sym is) ready))

pub returns-in-Err : goal.returns-in-Err
returns-in-Err c = λ r.
    let P = program_in c.args.program.now in
    let held = certificate_of c.args.certificate.now in
    let task = task_of c.args.task.now in
    let d = held.degree in
    let earlier = before held c.args.number in
    let is = c.scale_for-scale.ensures.is in
    let fits : FitsSigned w128 c.scale_for-scale.result = search rules in
    let checked = simp (to_z-of_z w128 _ fits) at c.in-Err.ensures in
    let ready = c.refuted_are_tasks.ensures P c.requires.ordered held c.requires.held c.args.number _ c.args.farkas.now c.requires.there refl in
    c.told.ensures P held (faulty P held c.args.number task c.args.farkas.now c.requires.there (fault_of c.in-Err.fault)
    (subst (λ n. OfFault (fault_of c.in-Err.fault) (v.VectorFault (limit_of (generator_of P d) task (system P d earlier task n)) (system P d earlier task n) c.args.farkas.now)) is
    (checked earlier r (subst (IsTask P d earlier task) (sym is) ready))))
