use Rattle.std.proofs.Common.{◌≡◌, None, ap, sym, subst}
use Rattle.share_normal.specs.Program.{Kept, source_in}
use Rattle.annot_types.specs.Certificate.{Certificate}
use Rattle.annot_types.specs.Held.{before, scale_for}
use Rattle.annot_types.specs.System.{system}
use Rattle.infer_spec.specs.Generator.{limit_of}
use Rattle.infer_systems_laws.specs.Analysed.{generator_of}
use Rattle.infer_systems_laws.specs.Tried.{IsOrdered}
use Rattle.rules_plan.specs.Read.{program_in}
use Rattle.simplex_checked.specs.Rules.{least_pick}
use Rattle.bound_contract.specs.Asked.{MayBeAsked}
use Rattle.explain_degrees.specs.Degrees.{analysis_at}
use Rattle.explain_budget.proofs.at.may_be_judged.Goals as goal

pub returns-clause-asked : goal.returns-clause-asked
returns-clause-asked c line there =
    let N = program_in c.args.program.now in
    let cert = c.args.verified.now.certificate in
    let ordered = subst (λ funs. IsOrdered (record { funs = funs; groups = c.args.program.now.groups.list })) (sym c.functions-functions.ensures.norm)
    (c.normals_are_ordered.ensures (source_in c.args.program.now) c.source-source.ensures.typed c.source-source.ensures.numbers c.args.program.now.groups c.groups-groups.ensures.grouping) in
    let within = c.courses_stay_within.ensures (analysis_at N c.args.degree) (c.systems_generate.ensures N ordered c.args.degree least_pick) cert c.requires.inferred.ends in
    subst (λ (k : Kept). MayBeAsked (record { program = k; certificate = cert }) line) (sym c.requires.program)
    (record {
      fun = there;
      within = λ place own is free. subst (λ d. limit_of (generator_of N d) own.task (system N cert.degree (before cert place) own.task (scale_for cert own.task.kind)) ≡ None)
          (sym (ap (λ (c : Certificate). c.degree) c.requires.inferred.ends.is)) (within.limits place own is.there free);
    })
