use Rattle.std.proofs.lemmas.Result.{on_ok_weaker}
use Rattle.std.proofs.lemmas.List.Elements.{All-same}
use Rattle.raml_syntax.specs.Read.{program_of}
use Rattle.explain_advice.specs.Changes.{CanBeTold}
use Rattle.explain_advice.proofs.Telling.{reasons_told}
use Rattle.explain_language.proofs.source.advise.Goals as goal

pub add_advice-requires-clause-told : goal.add_advice-requires-clause-told
add_advice-requires-clause-told c =
    let reasons = c.in_ok-reasons.reasons.items in
    All-same CanBeTold c.deref.result.now reasons c.deref.ensures.value
    (reasons_told c.findings_can_be_told.ensures c.args.source.now (program_of c.args.typed.now) c.args.found.now 3 reasons c.in_ok-reasons.ensures)

pub returns : goal.returns
returns c =
    let advised = rw (c.program.ensures.program, c.deref.ensures.value) at c.add_advice.ensures in
    on_ok_weaker c.add_advice.result (λ is. (c.in_ok-reasons.reasons.items, c.in_ok-reasons.ensures, is)) advised
