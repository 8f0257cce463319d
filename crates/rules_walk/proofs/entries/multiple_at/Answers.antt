use Rattle.std.proofs.Common.{◌≡◌, ◌∙◌}
use Rattle.std.proofs.lemmas.Result.{IfOk-weaker}
use Rattle.rules_spec.specs.Walk.{at, multiples}
use Rattle.rules_walk.proofs.Bringing.{multiple_is, no_multiple}
use Rattle.rules_walk.proofs.entries.multiple_at.Goals as goal

pub returns-in-Some : goal.returns-in-Some
returns-in-Some g c =
    let A = g.T.Kind.kind in let ns = c.args.from.now in let n = c.in-Some.number.now in
    let look = c.in-Some.ensures.lookup in
    IfOk-weaker c.multiple.result (λ x. x ≡ A.times n c.args.entry.now) (λ x. x ≡ at A (multiples A c.args.entry.now ns) c.args.place)
    (λ x e. e ∙ multiple_is A c.args.entry.now ns c.args.place n look.3.0 look.1) c.multiple.ensures

pub returns-in-None : goal.returns-in-None
returns-in-None g c = c.none.ensures ∙ no_multiple g.T.Kind.kind c.args.entry.now c.args.from.now c.args.place c.in-None.ensures.lookup.3
