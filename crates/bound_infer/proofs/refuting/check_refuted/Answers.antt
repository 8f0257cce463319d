use Rattle.std.proofs.Common.{sym, subst, rules, FitsSigned}
use Rattle.std.specs.Int.{w128}
use Rattle.std.proofs.lemmas.Int.{to_z-of_z}
use Rattle.std.specs.Prelude.{unsigned_abs, None}
use Rattle.cost_free.specs.Read.{task_of}
use Rattle.rules_plan.specs.Read.{program_in}
use Rattle.annot_types.specs.System.{system}
use Rattle.infer_spec.specs.Generator.{limit_of}
use Rattle.infer_spec.specs.Verifying as v
use Rattle.infer_systems_laws.specs.Analysed.{generator_of}
use Rattle.bound_infer.specs.Cleared.{OfFault, Tells}
use Rattle.bound_infer.proofs.Exceeded.{caused, none_leaves, none_exceeded}
use Rattle.bound_infer.proofs.refuting.check_refuted.Goals as goal

pub returns-in-Err : goal.returns-in-Err
returns-in-Err c = λ blocks r t.
    let P = program_in c.args.program.now in
    let d = c.args.d in
    let task = task_of c.args.task.now in
    let scale = unsigned_abs c.args.scale in
    let s = system P d blocks task scale in
    let fits : FitsSigned w128 c.args.scale = search rules in
    subst (λ o. OfFault o (v.VectorFault (limit_of (generator_of P d) task s) s c.args.farkas.now)) (sym c.no_system.ensures)
    (caused c.requires.limits P d blocks task scale c.args.farkas.now c.in-Err.fault ((simp (to_z-of_z w128 _ fits) at c.in-Err.ensures.fault) blocks r t))

pub returns-in-Ok : goal.returns-in-Ok
returns-in-Ok c = λ blocks r t.
    let P = program_in c.args.program.now in
    let d = c.args.d in
    let task = task_of c.args.task.now in
    let scale = unsigned_abs c.args.scale in
    let s = system P d blocks task scale in
    let fits : FitsSigned w128 c.args.scale = search rules in
    let made = (simp (to_z-of_z w128 _ fits) at c.in-Ok.ensures.made) blocks r t in
    subst (λ limit. Tells c.check_entries.result limit s c.args.farkas.now) (sym (none_exceeded c.requires.limits P d blocks task scale c.in-Ok.system made))
    (subst (λ s. Tells c.check_entries.result None s c.args.farkas.now) made.is
    (c.check_entries.ensures (none_leaves c.requires.limits P d blocks task scale c.in-Ok.system made)))
