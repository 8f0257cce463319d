use Rattle.std.proofs.Common.{◌≡◌, ◌∙◌, subst}
use Rattle.raml_syntax.specs.Read.{program_of}
use Rattle.rules_plan.specs.Read.{program_in}
use Rattle.report_text.specs.Trial.{trial_data}
use Rattle.refusals.specs.Line.{no_names}
use Rattle.raml_promise.specs.Outside.{Sound}
use Rattle.raml_promise.specs.Promise.{RunsTrial}
use Rattle.raml_parts.specs.Parts.{ReadsArguments, ArgumentsRefuse, Refuses}
use Rattle.raml_parts.proofs.Calling.{arguments_give, arguments_refuse}
use Rattle.raml_top.proofs.trial.try_call.Goals as goal

pub returns-in-Ok : goal.returns-in-Ok
returns-in-Ok c f same there =
    let P = program_of c.args.typed.now in
    let N = program_in c.args.verified.now.program in
    let cert = c.args.verified.now.certificate in
    let bytes : c.as_bytes.result.now ≡ trial_data = c.as_bytes.ensures.value ∙ c.trial_data.ensures in
    let reads : ReadsArguments P c.args.place.0 trial_data c.in-Ok.args = subst (λ b. ReadsArguments P c.args.place.0 b c.in-Ok.args) bytes c.in-Ok.ensures.ok in
    arguments_give P c.args.place.0 trial_data f same there c.in-Ok.args reads (λ args. RunsTrial Sound c.args.count P N cert f args) c.try_run.result (λ h. c.try_run.ensures f reads.values same h)

pub returns-in-Err : goal.returns-in-Err
returns-in-Err c f same there =
    let P = program_of c.args.typed.now in
    let N = program_in c.args.verified.now.program in
    let cert = c.args.verified.now.certificate in
    let bytes : c.as_bytes.result.now ≡ trial_data = c.as_bytes.ensures.value ∙ c.trial_data.ensures in
    arguments_refuse P c.args.place.0 trial_data f same there (λ args. RunsTrial Sound c.args.count P N cert f args) c.in-Err.refusal
    (subst (λ b. Refuses no_names (ArgumentsRefuse P c.args.place.0 b) c.in-Err.refusal) bytes c.in-Err.ensures.err)
