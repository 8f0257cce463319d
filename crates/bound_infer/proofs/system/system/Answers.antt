use Rattle.std.proofs.Common.{rules, ◌≡◌, ◌∙◌, None, ℕ, ℤ, pos, ◌≤ℤ◌, unsigned_abs, FitsSigned, to_z, of_z, sym, ap, subst, arith}
use Rattle.std.specs.Int.{w128}
use Rattle.std.proofs.lemmas.Int.{ints, to_z-of_z}
use Rattle.cost_free.specs.Read.{task_of}
use Rattle.rules_plan.specs.Read.{program_in}
use Rattle.rules_spec.specs.Systems.{IsTask}
use Rattle.constraint_gen.specs.Cause.{IsMade, IsCause}
use Rattle.infer_spec.specs.States.{scale_at}
use Rattle.bound_infer.specs.Keeping.{state_of, analysis_in}
use Rattle.bound_infer.proofs.Limited.{rows_are_fine, made_too_large, made_leaves}
use Rattle.bound_infer.proofs.Answering.{gen_stops}
use Rattle.bound_infer.proofs.system.system.Goals as goal

natural : (z : ℤ) (n : ℕ) → z ≡ pos n → pos 0 ≤ℤ z
natural z n e = omega (arith, ints, e)

pub rows_by-requires-clause-natural : goal.rows_by-requires-clause-natural
rows_by-requires-clause-natural c =
    let fits : FitsSigned w128 c.of_kind-scale.result = search rules in
    natural _ _ (to_z-of_z w128 c.of_kind-scale.result fits ∙ c.of_kind-scale.ensures)

pub returns-in-Ok-clause-few : goal.returns-in-Ok-clause-few
returns-in-Ok-clause-few c =
    let P = program_in c.args.program.now in
    let A = analysis_in c.args.program.now c.args.d (λ ns n. None) in
    let st = state_of c.args.run.now in
    let task = task_of c.args.task.now in
    let fits : FitsSigned w128 c.of_kind-scale.result = search rules in
    let scale : unsigned_abs (to_z w128 (of_z w128 c.of_kind-scale.result)) ≡ scale_at st.scales task.kind = ap unsigned_abs (to_z-of_z w128 c.of_kind-scale.result fits ∙ c.of_kind-scale.ensures) in
    let is = c.tried_are_tasks.ensures A c.requires.ordered st task (c.requires.stands (λ ns n. None)) in
    let m = c.in-Ok.ensures.made st.blocks c.requires.keeps.come.remembers c.requires.plans (subst (IsTask P c.args.d st.blocks task) (sym scale) is) in
    omega (arith, m.unknowns, m.rows)

pub returns-in-Ok-clause-made : goal.returns-in-Ok-clause-made
returns-in-Ok-clause-made c = λ pick.
    let P = program_in c.args.program.now in
    let A = analysis_in c.args.program.now c.args.d pick in
    let st = state_of c.args.run.now in
    let task = task_of c.args.task.now in
    let fits : FitsSigned w128 c.of_kind-scale.result = search rules in
    let scale : unsigned_abs (to_z w128 (of_z w128 c.of_kind-scale.result)) ≡ scale_at st.scales task.kind = ap unsigned_abs (to_z-of_z w128 c.of_kind-scale.result fits ∙ c.of_kind-scale.ensures) in
    let is = c.tried_are_tasks.ensures A c.requires.ordered st task (c.requires.stands pick) in
    let m = subst (λ n. IsMade P c.args.d st.blocks task n c.in-Ok.made) scale
    (c.in-Ok.ensures.made st.blocks c.requires.keeps.come.remembers c.requires.plans (subst (IsTask P c.args.d st.blocks task) (sym scale) is)) in
    record { is = m.is; fine = rows_are_fine A (c.limits_are_told.ensures P c.args.d) st task c.in-Ok.made c.rows-rows.ensures.sound m }

pub returns-in-Err-clause-fault : goal.returns-in-Err-clause-fault
returns-in-Err-clause-fault c = λ pick.
    let P = program_in c.args.program.now in
    let A = analysis_in c.args.program.now c.args.d pick in
    let st = state_of c.args.run.now in
    let task = task_of c.args.task.now in
    let told = c.limits_are_told.ensures P c.args.d in
    let stands = c.requires.stands pick in
    let fits : FitsSigned w128 c.of_kind-scale.result = search rules in
    let scale : unsigned_abs (to_z w128 (of_z w128 c.of_kind-scale.result)) ≡ scale_at st.scales task.kind = ap unsigned_abs (to_z-of_z w128 c.of_kind-scale.result fits ∙ c.of_kind-scale.ensures) in
    let is = c.tried_are_tasks.ensures A c.requires.ordered st task stands in
    let cause = subst (λ n. IsCause P c.args.d st.blocks task n c.in-Err.fault) scale
    (c.in-Err.ensures.fault st.blocks c.requires.keeps.come.remembers c.requires.plans (subst (IsTask P c.args.d st.blocks task) (sym scale) is)) in
    gen_stops A st c.args.task.now c.seen_is_first.ensures stands.tried c.in-Err.fault c.gen_fault.result c.gen_fault.ensures.large c.gen_fault.ensures.leaves c.gen_fault.ensures.memory
    (λ what e. made_too_large A told st task c.in-Err.fault what e cause) (λ row e. made_leaves A told st task c.in-Err.fault row e cause)
