use Rattle.std.proofs.Common.{All, sym, subst}
use Rattle.std.proofs.lemmas.List.Elements.{All-push}
use Rattle.explain_insight.specs.Read.{IsHoverIn}
use Rattle.explain_insight.proofs.called.push_named.Goals as goal

pub returns-in_ok-push-in-Some-2 : goal.returns-in_ok-push-in-Some-2
returns-in_ok-push-in-Some-2 c =
    let Is = IsHoverIn c.args.analysed.now in
    let hover = c.in-Some-2.hover in
    let one : Is hover = rw c.in-Some-2.is at c.in_ok-hover.ensures in
    subst (All Is) (sym c.in_ok-push-in-Some-2.ensures.items) (All-push Is c.args.hovers.now.items hover c.requires.hovers one)
