use Rattle.std.proofs.Common.{◌≤◌, ◌∙◌, ap, sym, subst, map, length, arith}
use Rattle.raml_num.specs.Sums.{NoneNegative}
use Rattle.cost_free.specs.Read.{task_of, kind_of}
use Rattle.annot_types.specs.Holds.{budget_of}
use Rattle.annot_types.specs.Program.{members}
use Rattle.annot_types.specs.System.{sig_weights}
use Rattle.rules_spec.specs.Kinds.{forms, unknown}
use Rattle.rules_spec.specs.Tasks.{given_conditions}
use Rattle.rules_spec.specs.Solving.{rows_of}
use Rattle.rules_plan.specs.Read.{program_in, body_of}
use Rattle.constraint_gen.specs.Sums as s
use Rattle.constraint_gen.specs.Sums.{sums}
use Rattle.constraint_gen.specs.Made.{filled}
use Rattle.constraint_gen.specs.Walked.{job_in}
use Rattle.constraint_gen.proofs.Finishing.{pairs, told_below, finished_is}
use Rattle.constraint_gen.proofs.Whole.{front_is, exact_front, row_cause, natural_sigs}
use Rattle.constraint_gen.proofs.system.of_bodies.Goals as goal

pub finish-requires-clause-below : goal.finish-requires-clause-below
finish-requires-clause-below c =
    let j = job_in (program_in c.args.program.now) c.args.d c.args.earlier.now (map body_of c.args.planned.now) (task_of c.args.task.now) c.args.scale in
    told_below c.args.count (pairs (given_conditions sums s.unknown j)) c.in_ok-rows.rows.items (front_is j c.args.count c.in_ok-rows.rows.items c.in_ok-rows.ensures)

pub finish-requires-clause-natural : goal.finish-requires-clause-natural
finish-requires-clause-natural c =
    let P = program_in c.args.program.now in
    let weights = c.in_ok-weights.ensures ∙ (λ i. sig_weights P (c.budget_of-budget.ensures i) (c.members-functions.ensures i)) in
    c.in_ok-fill.ensures.natural (subst NoneNegative (sym weights) (natural_sigs P (budget_of c.args.d (kind_of c.args.task.now.kind)) (members P c.args.task.now.group)))

pub returns-in-Ok-clause-made : goal.returns-in-Ok-clause-made
returns-in-Ok-clause-made c proper =
    let P = program_in c.args.program.now in
    let j = job_in P c.args.d c.args.earlier.now (map body_of c.args.planned.now) (task_of c.args.task.now) c.args.scale in
    let rows = rows_of c.args.count (given_conditions forms unknown j) in
    let weights = c.in_ok-weights.ensures ∙ (λ i. sig_weights P (c.budget_of-budget.ensures i) (c.members-functions.ensures i)) in
    let few : length c.in_ok-weights.weights.items ≤ c.args.count = omega (arith, ap length weights, proper.few_weights, c.requires.counted) in
    let all = finished_is rows c.in_ok-rows.rows.items c.in-Ok.made.rows (exact_front j c.args.count c.in_ok-rows.rows.items proper.sure c.in_ok-rows.ensures) c.in-Ok.ensures.made in
    record {
      unknowns = c.in-Ok.ensures.unknowns;
      rows_are = all.0;
      weights_are = c.in-Ok.ensures.weights ∙ c.in_ok-fill.ensures.filled few ∙ ap (filled c.args.count) weights;
      few = all.1;
      fit = all.2;
    }

pub returns-in-Err-clause-fault : goal.returns-in-Err-clause-fault
returns-in-Err-clause-fault c proper =
    let j = job_in (program_in c.args.program.now) c.args.d c.args.earlier.now (map body_of c.args.planned.now) (task_of c.args.task.now) c.args.scale in
    row_cause (rows_of c.args.count (given_conditions forms unknown j)) c.in_ok-rows.rows.items c.in-Err.fault (exact_front j c.args.count c.in_ok-rows.rows.items proper.sure c.in_ok-rows.ensures) c.in-Err.ensures.fault
