use Rattle.std.proofs.Common.{◌≡◌, ◌∙◌, ap, refl, sym, None, Some, inr}
use Rattle.std.proofs.lemmas.Option.{slice_get_within}
use Rattle.raml_syntax.specs.Read.{program_of}
use Rattle.raml_syntax.specs.Place.{place_of}
use Rattle.rules_plan.specs.Read.{program_in}
use Rattle.report_text.specs.Trial.{trial_function, trial_data}
use Rattle.refusals.specs.Ending as e
use Rattle.refusals.specs.Ending.{Ending}
use Rattle.refusals.specs.Line.{no_names}
use Rattle.refusals.specs.declared.status.Status.TheVariants as s
use Rattle.raml_promise.specs.Outside.{Sound}
use Rattle.raml_promise.specs.Call.{IsNamed, OfArguments}
use Rattle.raml_promise.specs.Promise.{RunsTrial}
use Rattle.raml_parts.proofs.Placing.{named}
use Rattle.raml_parts.proofs.Stepping.{step_refused, step_goes}
use Rattle.raml_parts.proofs.Refusing.{told_refuses}
use Rattle.raml_top.proofs.trial.try_function.Goals as goal

pub try_call-requires-clause-place : goal.try_call-requires-clause-place
try_call-requires-clause-place c =
    let P = program_of c.args.typed.now in
    let name = trial_function c.args.count in
    let found : Some c.in-Some.place.0 ≡ place_of name P =
    c.in-Some.ensures ∙ ap (λ n. place_of n (program_of c.program.result.now)) (c.as_str.ensures.value ∙ c.in-Ok.ensures) ∙ ap (place_of name) (ap program_of c.program.ensures.program) in
    let is = named P name c.in-Some.place.0 found in
    slice_get_within P c.in-Some.place.0 is.0 is.1.there

pub returns-in-Some : goal.returns-in-Some
returns-in-Some c =
    let P = program_of c.args.typed.now in
    let name = trial_function c.args.count in
    let found : Some c.in-Some.place.0 ≡ place_of name P =
    c.in-Some.ensures ∙ ap (λ n. place_of n (program_of c.program.result.now)) (c.as_str.ensures.value ∙ c.in-Ok.ensures) ∙ ap (place_of name) (ap program_of c.program.ensures.program) in
    let is = named P name c.in-Some.place.0 found in
    let N = program_in c.args.verified.now.program in
    let cert = c.args.verified.now.certificate in
    let Refuses : Ending → Type 0 = λ x. (x ≡ e.NoFunction) × (place_of name P ≡ None) in
    step_goes no_names Refuses (IsNamed P name) (λ f. OfArguments trial_data f.1 (λ args. RunsTrial Sound c.args.count P N cert f args)) (c.in-Some.place.0, is.0) is.1 c.try_call.result
    (c.try_call.ensures (c.in-Some.place.0, is.0) refl is.1.there)

pub returns-in-Ok : goal.returns-in-Ok
returns-in-Ok c =
    let P = program_of c.args.typed.now in
    let name = trial_function c.args.count in
    let N = program_in c.args.verified.now.program in
    let cert = c.args.verified.now.certificate in
    let none : None ≡ place_of name P =
    c.in-None.ensures ∙ ap (λ n. place_of n (program_of c.program.result.now)) (c.as_str.ensures.value ∙ c.in-Ok.ensures) ∙ ap (place_of name) (ap program_of c.program.ensures.program) in
    let Refuses : Ending → Type 0 = λ x. (x ≡ e.NoFunction) × (place_of name P ≡ None) in
    step_refused no_names Refuses (IsNamed P name) (λ f. OfArguments trial_data f.1 (λ args. RunsTrial Sound c.args.count P N cert f args)) c.no_function.result
    (told_refuses no_names s.NoFunction e.NoFunction Refuses refl (refl, sym none) c.no_function.result (inr (c.no_function.ensures no_names)))
