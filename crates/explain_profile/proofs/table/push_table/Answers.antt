use Rattle.std.proofs.Common.{◌++◌, ◌∙◌, List, ap, refl, subst, string_bytes}
use Rattle.std.proofs.lemmas.List.{append_assoc}
use Rattle.std.proofs.lemmas.Result.{on_ok_weaker}
use Rattle.raml_syntax.specs.Tree.{Text}
use Rattle.raml_syntax.specs.Read.{function_of}
use Rattle.explain_at.specs.Read.{texts}
use Rattle.explain_profile.specs.Rows.{AreLaidOut, line_with, meaning}
use Rattle.explain_profile.proofs.table.push_table.Goals as goal

pub returns : goal.returns
returns c =
    let old = string_bytes c.args.text.now in
    let heading = c.in_ok-push_cells.ensures in
    let headed = subst (λ (cells : List Text). AreLaidOut cells heading.0) (ap texts c.deref-2.ensures.value ∙ c.in_ok-heading.ensures) heading.1 in
    let rows = c.in_ok-push_rows.ensures in
    let last = line_with (meaning (function_of c.args.fun.now)) in
    let before = rows.2 ∙ ap (λ (text : Text). text ++ rows.0) heading.2 in
    on_ok_weaker c.push_meaning.result
    (λ told. (
      heading.0 ++ (rows.0 ++ last),
      record { above = heading.0; shown = rows.0; headed = headed; are = rows.1; is = refl },
      told ∙ ap (λ (text : Text). text ++ last) before ∙ append_assoc (old ++ heading.0) rows.0 last ∙ append_assoc old heading.0 (rows.0 ++ last),
    ))
    c.push_meaning.ensures
