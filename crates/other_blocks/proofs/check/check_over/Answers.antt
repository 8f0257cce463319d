use Rattle.std.proofs.Common.{◌≡◌, ◌≤◌, ap, sym, ◌∙◌, length, map, None, arith}
use Rattle.std.proofs.lemmas.List.{length-map}
use Rattle.annot_types.specs.Certificate.{Solved}
use Rattle.annot_types.specs.Held.{before}
use Rattle.annot_types.specs.Holds.{budget_of}
use Rattle.annot_types.specs.Read as a
use Rattle.rules_walk.specs.Filled.{uses_of}
use Rattle.rules_plan.specs.Read.{program_in, body_of}
use Rattle.cert_check.specs.Finds.{ShapeFinds}
use Rattle.cert_check.specs.Read.{fault_of}
use Rattle.cert_check.proofs.Few.{kept_bodies_few}
use Rattle.cert_check.proofs.Telling.{of_fault}
use Rattle.other_blocks.specs.Other.{raised_certificate, raised_before, ThereFinds}
use Rattle.other_blocks.proofs.Over.{planned_within, same_degree, count_here, known_here, bodies_here, there_found}
use Rattle.other_blocks.proofs.check.check_over.Goals as goal

pub returns-in-Ok-check_planned-clause-tells : goal.returns-in-Ok-check_planned-clause-tells
returns-in-Ok-check_planned-clause-tells c =
    let P = program_in c.args.program.now in
    let held = a.certificate_of c.args.certificate.now in
    let block = a.block_of c.args.block.now in
    let within = planned_within P held block.task c.args.plans.now c.requires.plans in
    let t = c.args.times in
    let low : c.args.place ≤ length held.blocks = omega (arith, c.requires.there, length-map c.args.certificate.now.blocks.items a.block_of) in
    let body : block.body ≡ Solved (map a.sig_of c.deref-2.result.now) (map a.hints_of c.deref-3.result.now) =
    ap a.body_of c.in-Solved.is ∙ (λ i. Solved (map a.sig_of (sym c.deref-2.ensures.value i)) (map a.hints_of (sym c.deref-3.ensures.value i))) in
    let bodies = ap (map body_of) c.deref.ensures.value
    ∙ c.in-Ok.ensures P block.task.group (budget_of held.degree block.task.kind) (before held c.args.place) c.requires.plans
    (λ f d. (λ i. uses_of (c.raise_for.ensures.uses i) d f) ∙ c.requires.remembers.usable f d) in
    there_found P held t block None (map a.sig_of c.deref-2.result.now) (map a.hints_of c.deref-3.result.now) body within
    (c.in-Ok-check_planned.ensures.tells (raised_certificate P held t block) (raised_before P held t block) (record {
      count = count_here P held t block c.args.place c.requires.place low;
      degree = same_degree P held t block;
      scale = c.scale_times.ensures;
      knows = known_here P held t block c.args.place c.requires.place c.raise_for.new.earlier
          (c.raise_for.ensures.knows P held.degree (before held c.args.place) c.requires.remembers);
    }) (bodies_here P held t block c.args.place c.requires.place (map body_of c.deref.result.now) bodies))

pub returns-clause-tells : goal.returns-clause-tells
returns-clause-tells c =
    let P = program_in c.args.program.now in
    let held = a.certificate_of c.args.certificate.now in
    let block = a.block_of c.args.block.now in
    let within = planned_within P held block.task c.args.plans.now c.requires.plans in
    let t = c.args.times in
    let low : c.args.place ≤ length held.blocks = omega (arith, c.requires.there, length-map c.args.certificate.now.blocks.items a.block_of) in
    let bodies = ap (map body_of) c.deref.ensures.value
    ∙ c.in-Ok.ensures P block.task.group (budget_of held.degree block.task.kind) (before held c.args.place) c.requires.plans
    (λ f d. (λ i. uses_of (c.raise_for.ensures.uses i) d f) ∙ c.requires.remembers.usable f d) in
    let sigs = map a.sig_of c.deref-2.result.now in
    let hints = map a.hints_of c.deref-3.result.now in
    let body : block.body ≡ Solved sigs hints =
    ap a.body_of c.in-Solved.is ∙ (λ i. Solved (map a.sig_of (sym c.deref-2.ensures.value i)) (map a.hints_of (sym c.deref-3.ensures.value i))) in
    of_fault (fault_of c.in-Err.fault) (ShapeFinds P (raised_certificate P held t block) (raised_before P held t block) block.task sigs hints) (ThereFinds P held t block)
    (λ x h. there_found P held t block x sigs hints body within h)
    (c.in-Err.ensures.tells (raised_certificate P held t block) (raised_before P held t block) (record {
      count = count_here P held t block c.args.place c.requires.place low;
      degree = same_degree P held t block;
      scale = c.scale_times.ensures;
      knows = known_here P held t block c.args.place c.requires.place c.raise_for.new.earlier
          (c.raise_for.ensures.knows P held.degree (before held c.args.place) c.requires.remembers);
    }) (bodies_here P held t block c.args.place c.requires.place (map body_of c.deref.result.now) bodies))

pub check_planned-requires-clause-within : goal.check_planned-requires-clause-within
check_planned-requires-clause-within c =
    planned_within (program_in c.args.program.now) (a.certificate_of c.args.certificate.now) (a.block_of c.args.block.now).task c.args.plans.now c.requires.plans

pub check_planned-requires-clause-few : goal.check_planned-requires-clause-few
check_planned-requires-clause-few c =
    let P = program_in c.args.program.now in
    let held = a.certificate_of c.args.certificate.now in
    let block = a.block_of c.args.block.now in
    kept_bodies_few c.args.program.now c.source-source.ensures.small.functions c.groups-groups.ensures.grouping block.task.group (budget_of held.degree block.task.kind)
    (before held c.args.place) c.deref.result.now
    (ap (map body_of) c.deref.ensures.value
    ∙ c.in-Ok.ensures P block.task.group (budget_of held.degree block.task.kind) (before held c.args.place) c.requires.plans
    (λ f d. (λ i. uses_of (c.raise_for.ensures.uses i) d f) ∙ c.requires.remembers.usable f d))
