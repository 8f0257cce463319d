use Rattle.std.proofs.Common.{inl, inr, refl, subst}
use Rattle.explain_check.specs.Checks.{texts}
use Rattle.explain_words.specs.Asking.{AsksToShow, GivesNone}
use Rattle.explain_top.proofs.Shelves.{untouched}
use Rattle.explain_top.proofs.top.explain.Goals as goal

pub returns-in-Ok-clause-cause : goal.returns-in-Ok-clause-cause
returns-in-Ok-clause-cause g c = inl (c.in-Ok.request, c.in-Ok.ensures.ok, c.answer.ensures.done)

pub returns-in-Err-Shown-clause-cause : goal.returns-in-Err-Shown-clause-cause
returns-in-Err-Shown-clause-cause g c =
    let asks : AsksToShow (texts c.args.words.now) = subst (GivesNone (texts c.args.words.now)) c.in-Err-Shown.field-0-is c.in-Err-Shown.ensures.err in
    let faults = g.W.Shelf.faults c.args.shelf.now in
    inr (untouched faults faults (g.W.Shelf.holds c.args.shelf.now), inr (inl (asks, refl, (c.as_bytes.result.now, inr (refl, (c.in-Err.ensures.failed, c.in-Err.ensures.err))))))
