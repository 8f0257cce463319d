use Rattle.std.proofs.Common.{◌≡◌, ◌∙◌, Some, length, ap, sym, subst}
use Rattle.std.specs.Prelude.{slice_get}
use Rattle.raml_syntax.specs.Tree.{Function}
use Rattle.raml_syntax.specs.Types.{types_of}
use Rattle.base_poly.specs.Indices.{index_list}
use Rattle.bound_file.specs.Lines.{Line, AreBelow}
use Rattle.std.proofs.lemmas.Option.{slice_get_within}
use Rattle.share_normal.specs.Program.{Kept, source_in}
use Rattle.annot_types.specs.Certificate.{has_work}
use Rattle.rules_plan.specs.Read.{program_in}
use Rattle.cert_check.specs.Checked.{Checking}
use Rattle.bound_contract.specs.Asked.{MayBeAsked}
use Rattle.contract_report.specs.Verdicts.{AreVerdictLines}
use Rattle.refusals.specs.Ending.{ending_of}
use Rattle.raml_top.proofs.Declaring.{all_there, verdicts_given, verdicts_denied}
use Rattle.raml_top.proofs.contract.verdict_report.Goals as goal

pub verdict_lines-requires-clause-work : goal.verdict_lines-requires-clause-work
verdict_lines-requires-clause-work c = ap (λ (K : Checking). has_work K.certificate) c.checked.ensures ∙ c.may_be_asked.ensures.work

pub verdict_lines-requires-clause-degree : goal.verdict_lines-requires-clause-degree
verdict_lines-requires-clause-degree c = c.requires.degree ∙ (sym c.may_be_asked.ensures.degree ∙ ap (λ (K : Checking). K.certificate.degree) (sym c.checked.ensures))

pub verdict_lines-requires-clause-asked : goal.verdict_lines-requires-clause-asked
verdict_lines-requires-clause-asked c number line there =
    let P = source_in c.args.program.now in
    let named = all_there (λ (line : Line). (fun : Function) × (slice_get P line.fun ≡ Some fun) × AreBelow (length (index_list (types_of fun) c.args.declared.now.degree)) line.bound)
    c.args.declared.now.lines c.requires.within number line there in
    subst (λ K. MayBeAsked K line) (sym c.checked.ensures) (c.may_be_asked.ensures.asked line (slice_get_within P line.fun named.0 named.1))

pub returns-in-Ok : goal.returns-in-Ok
returns-in-Ok c =
    let cert = c.args.verified.now.certificate in
    let K = c.checked.result.now in
    let same = c.checked.ensures ∙ ap (λ (k : Kept). record { program = k; certificate = cert }) c.requires.program in
    verdicts_given c.args.program.now cert c.args.declared.now.lines K same c.done.result (ap ending_of c.done.ensures.status) c.in-Ok.ensures.clear
    (subst (AreVerdictLines (source_in K.program) (program_in K.program) K.certificate c.args.declared.now.lines) (sym c.done.ensures.text) c.in-Ok.ensures.lines)

pub returns-in-Err : goal.returns-in-Err
returns-in-Err c =
    let cert = c.args.verified.now.certificate in
    let same = c.checked.ensures ∙ ap (λ (k : Kept). record { program = k; certificate = cert }) c.requires.program in
    verdicts_denied c.args.program.now cert c.args.declared.now.lines c.checked.result.now same c.in-Err.fault c.in-Err.ensures.fault c.verdicts_refusal.result c.verdicts_refusal.ensures
