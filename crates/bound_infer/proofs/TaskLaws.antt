-- Refuted blocks are of tasks that were tried.
use Rattle.std.proofs.Common.{sym, subst, arith}
use Rattle.std.specs.Prelude.{pos, map}
use Rattle.std.proofs.lemmas.Int.{ints}
use Rattle.linear_rows.specs.Laws.{RefutedHasNoSolution}
use Rattle.annot_types.specs.Program.{blocker_of}
use Rattle.annot_types.specs.Held.{before, done_before, scale_for, NamesBlocker}
use Rattle.annot_types.specs.System.{system}
use Rattle.rules_spec.specs.Systems.{IsTask}
use Rattle.infer_spec.proofs.Running.{refuted_tried}
use Rattle.infer_systems_laws.specs.Tried.{TriedAreTasks}
use Rattle.infer_systems_laws.proofs.Certified.{analysed, scale_is, state, stands}
use Rattle.rules_systems_laws.specs.Laws.{WhatHoldsSolves}
use Rattle.bound_infer.specs.Laws.{RefutedAreTasks, VectorsRefute}

pub refuted_are_tasks : TriedAreTasks → RefutedAreTasks
refuted_are_tasks tried P ordered cert held place block farkas there e =
    subst (IsTask P cert.degree (before cert place) block.task) (sym (scale_is P cert held block.task.kind))
    (tried (analysed P cert held) ordered (state P cert held place) block.task
    (stands P cert held place block there (refuted_tried _ farkas (subst (NamesBlocker (blocker_of P block.task (done_before cert place))) e (held.blocks place block there).waits))))

pub vectors_refute : TriedAreTasks → WhatHoldsSolves → RefutedHasNoSolution → VectorsRefute
vectors_refute tried solves none P ordered cert held place block farkas there e h t sigs hints holds =
    let scale = scale_for cert block.task.kind in
    let x = solves P cert.degree (before cert place) block.task scale t sigs hints (refuted_are_tasks tried P ordered cert held place block farkas there e) holds in
    none (system P cert.degree (before cert place) block.task scale) _ (map pos x.0) (pos t) h.refutes (let p = holds.positive in omega (arith, ints, p)) x.1
