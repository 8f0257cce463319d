use Rattle.std.proofs.Common.{ap, ◌∙◌, List}
use Rattle.explain_edits.specs.Edits.{with_edits}
use Rattle.explain_edits.specs.Read.{edits_of}
use Rattle.explain_edits.specs.declared.edit.Edit.{Edit}
use Rattle.explain_profile.specs.Read.{case_of}
use Rattle.explain_profile.proofs.Found.{at_region}
use Rattle.explain_profile.proofs.runs.runs_of_region.Goals as goal

pub returns : goal.returns
returns c =
    let source = c.args.case.source.now in
    let edits = c.in_ok-edits.edits.items in
    let text = c.deref-2.ensures.value ∙ c.in_ok-changed.ensures ∙ ap (λ (es : List Edit). with_edits source (edits_of es)) c.deref.ensures.value in
    at_region (case_of c.args.case) c.args.region.0 (edits_of edits) c.deref-2.result.now c.runs_by.result c.in_ok-edits.ensures text c.runs_by.ensures
