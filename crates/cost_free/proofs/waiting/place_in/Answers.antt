use Rattle.std.proofs.Common.{ap, sym, ◌∙◌, arith}
use Rattle.cost_free.specs.Blocked.{is_among}
use Rattle.cost_free.specs.Read.{ids_of}
use Rattle.cost_free.proofs.Passing.{in_place}
use Rattle.cost_free.proofs.waiting.place_in.Goals as goal

pub returns-then-is_among-clause-some : goal.returns-then-is_among-clause-some
returns-then-is_among-clause-some c =
    let among = ap (λ fs. is_among c.args.fun (ids_of fs)) (sym c.deref.ensures.value) ∙ sym c.is_among.ensures ∙ c.if-is_among.true in
    in_place c.args.groups.now c.index-groups-place.result c.args.fun c.loop-place.place (omega (arith, c.loop-place-test.true, c.loop-place.auto.place-end)) c.index-groups-place.is among
