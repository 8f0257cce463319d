use Rattle.std.proofs.Common.{rules, FitsSigned, slice_index_or, pos, sym, ap, ◌∙◌, to_z}
use Rattle.std.proofs.lemmas.Int.{to_z-of_z}
use Rattle.std.specs.Int.{w64}
use Rattle.simplex_rows.proofs.ManyChanging.{multiplied_next, once}
use Rattle.simplex_rows.proofs.places.multiply.Goals as goal

pub loop-place-preserved : goal.loop-place-preserved
loop-place-preserved c =
    let f : FitsSigned w64 c.args.p = search rules in
    let g : FitsSigned w64 (slice_index_or c.loop-place.numbers c.loop-place.place (pos 0)) = search rules in
    multiplied_next c.args.p c.loop-place.place c.args.numbers.now c.loop-place.numbers f g c.requires (search rules) c.loop-place.invariant

pub returns-then-p-eq1 : goal.returns-then-p-eq1
returns-then-p-eq1 c = once c.args.p c.args.numbers.now (let e = c.if-p-eq1.true in sym (to_z-of_z w64 c.args.p c.ranges.p) ∙ ap (to_z w64) e)
