use Rattle.std.proofs.Common.{[], ◌∙◌, ap, slice_get}
use Rattle.annot_types.specs.Program.{members}
use Rattle.rules_spec.specs.Jobs.{body_of}
use Rattle.rules_spec.specs.Plan.{Plan}
use Rattle.rules_spec.specs.Tasks.{Body}
use Rattle.rules_plan.specs.Read.{program_in, function_of}
use Rattle.share_normal.specs.Program.{source_in}
use Rattle.explain_origins.specs.Paths.{origin_in}
use Rattle.explain_verify.specs.Told.{function_place, place_or}
use Rattle.explain_verify.proofs.Lists.{agree, not_past}
use Rattle.explain_verify.proofs.failing.planned_place.Goals as goal

pub returns-in-Some : goal.returns-in-Some
returns-in-Some c = λ budget all.
    let N = program_in c.args.subject.now.program.now in
    let P = source_in c.args.subject.now.program.now in
    let x = c.args.failing.now in
    let fs = members N x.task.group in
    let look = c.in-Some.ensures.lookup in
    let same = agree function_of (λ f. body_of N fs [] budget (slice_get N.funs f)) c.args.plans.now fs x.number x.fun.0 all c.requires c.in-Some.function.now look.1 look.3.0 in
    c.form_place.ensures ∙ ap (λ (plan : Plan). place_or (function_place P x.fun.0) (origin_in P x.fun.0 plan x.path.now)) (ap (λ (b : Body). b.plan) same)

pub returns-in-None : goal.returns-in-None
returns-in-None c = λ budget all.
    let N = program_in c.args.subject.now.program.now in
    let x = c.args.failing.now in
    let fs = members N x.task.group in
    absurd (not_past function_of (λ f. body_of N fs [] budget (slice_get N.funs f)) c.args.plans.now fs x.number x.fun.0 all c.requires c.in-None.ensures.lookup.3)
