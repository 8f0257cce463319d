use Rattle.std.proofs.lemmas.List.Elements.{All-weaker, All-same}
use Rattle.raml_syntax.specs.Read.{program_of}
use Rattle.explain_reasons.specs.Reasons.{IsExplained}
use Rattle.explain_why.specs.Why.{ReasonCanBeTold}
use Rattle.explain_reasons.specs.declared.reason.Explained.{Explained}
use Rattle.explain_why.proofs.Telling.{explained_told}
use Rattle.explain_why.proofs.groups.push_why.Goals as goal

pub push_groups-requires-clause-told : goal.push_groups-requires-clause-told
push_groups-requires-clause-told c =
    let source = c.args.subject.source.now in
    let P = program_of c.args.subject.program.now in
    let explanation = c.args.explanation.now in
    let found = explanation.found.functions.items in
    All-same (λ (e : Explained). ReasonCanBeTold e.reason) c.deref-2.result.now explanation.reasons.items c.deref-2.ensures.value
    (All-weaker (IsExplained source P found 3) (λ (e : Explained). ReasonCanBeTold e.reason) (explained_told c.findings_can_be_told.ensures source P found 3) explanation.reasons.items
    c.requires.is.1.reasons.explained)
