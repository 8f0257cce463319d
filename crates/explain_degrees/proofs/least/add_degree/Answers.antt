use Rattle.std.proofs.Common.{subst, sym}
use Rattle.share_normal.specs.Program.{source_in}
use Rattle.rules_plan.specs.Read.{program_in}
use Rattle.annot_types.specs.Program.{Program}
use Rattle.bound_infer.specs.Inferred.{InferCause}
use Rattle.explain_degrees.specs.Degrees.{RefusedAt, analysis_at}
use Rattle.explain_degrees.proofs.Found.{all_refused_found, refused_more}
use Rattle.explain_degrees.proofs.least.add_degree.Goals as goal

pub returns-in_ok-push-in-Err : goal.returns-in_ok-push-in-Err
returns-in_ok-push-in-Err c =
    let N : Program = program_in c.args.program.now in
    let told = c.in_ok-refused-in-Err.ensures in
    let at = c.in_ok-refused-in-Err.field-0 in
    let why : RefusedAt N c.args.degree at.fault = record { refused = told.refused; cause = subst (InferCause (analysis_at N c.args.degree)) (sym told.fault) c.in-Err.ensures.fault } in
    record {
      count = c.requires.before.count;
      functions = all_refused_found (source_in c.args.program.now) N c.args.degree c.args.found.now.functions.items c.requires.before.functions (at.fault, why);
      refused = rw c.in_ok-push-in-Err.ensures.items
          (refused_more N c.args.found.now.refused.items at c.requires.before.refused (subst (λ d. RefusedAt N d at.fault) (sym told.degree) why));
    }

pub returns-in-Ok-None : goal.returns-in-Ok-None
returns-in-Ok-None c = record { least = c.requires.before; given_up = rw c.in-Ok-None.field-0-is at c.in-Ok-None.ensures.given_up }
