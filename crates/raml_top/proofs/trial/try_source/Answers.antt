use Rattle.std.proofs.Common.{◌≤◌, length, refl, inr, arith, rules, Err}
use Rattle.raml_syntax.specs.Read.{program_of}
use Rattle.refusal_text.specs.declared.task.Analysed.TheVariants as analysed
use Rattle.refusal_text.specs.declared.plain.Which.TheVariants as w
use Rattle.refusals.specs.Ending as e
use Rattle.refusals.specs.Ending.{Ending}
use Rattle.refusals.specs.Line.{no_names}
use Rattle.refusals.specs.declared.status.Status.TheVariants as s
use Rattle.std.proofs.Common.{◌≡◌}
use Rattle.raml_promise.specs.Outside.{Sound}
use Rattle.raml_promise.specs.Steps.{IsTooLong, SourceRefuses, IsTyped, OfSource}
use Rattle.raml_promise.specs.Promise.{Tries}
use Rattle.raml_parts.proofs.Stepping.{step_refused, step_goes}
use Rattle.raml_parts.proofs.Refusing.{told_refuses}
use Rattle.raml_top.proofs.trial.try_source.Goals as goal

pub returns-then-source-most_bytes : goal.returns-then-source-most_bytes
returns-then-source-most_bytes c =
    let bytes = c.args.source.now in
    let long : IsTooLong w.Program bytes = omega (arith, c.if-source-most_bytes.true, c.most_bytes.ensures) in
    let Refuses : Ending → Type 0 = λ x. (x ≡ e.TooLong w.Program) × IsTooLong w.Program bytes in
    step_refused no_names Refuses (λ (done : Unit {0}). length bytes ≤ 1048576) (λ done. OfSource analysed.Program bytes (Tries Sound c.args.count)) c.too_long.result
    (told_refuses no_names (s.TooLong w.Program) (e.TooLong w.Program) Refuses refl (refl, long) c.too_long.result (inr (c.too_long.ensures no_names)))

pub returns-in-Ok : goal.returns-in-Ok
returns-in-Ok c =
    let bytes = c.args.source.now in
    let short : length bytes ≤ 1048576 = search rules in
    let Refuses : Ending → Type 0 = λ x. (x ≡ e.TooLong w.Program) × IsTooLong w.Program bytes in
    step_goes no_names Refuses (λ (done : Unit {0}). length bytes ≤ 1048576) (λ done. OfSource analysed.Program bytes (Tries Sound c.args.count)) tt short c.try_program.result
    (step_goes no_names (SourceRefuses bytes) (IsTyped bytes) (Tries Sound c.args.count) (program_of c.in-Ok.typed) c.in-Ok.ensures.ok c.try_program.result c.try_program.ensures)

pub returns-in-Err : goal.returns-in-Err
returns-in-Err c =
    let bytes = c.args.source.now in
    let short : length bytes ≤ 1048576 = search rules in
    let Refuses : Ending → Type 0 = λ x. (x ≡ e.TooLong w.Program) × IsTooLong w.Program bytes in
    step_goes no_names Refuses (λ (done : Unit {0}). length bytes ≤ 1048576) (λ done. OfSource analysed.Program bytes (Tries Sound c.args.count)) tt short (Err c.in-Err.refusal)
    (step_refused no_names (SourceRefuses bytes) (IsTyped bytes) (Tries Sound c.args.count) c.in-Err.refusal c.in-Err.ensures.err)
