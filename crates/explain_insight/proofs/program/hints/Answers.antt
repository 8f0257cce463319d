use Rattle.std.proofs.Common.{◌<◌, ◌≤◌, ◌+◌, ◌∙◌, ◌∷◌, sym, ap, subst, arith, drop, length}
use Rattle.std.proofs.lemmas.List.{drop_all, drop_more, length-map, map-id}
use Rattle.raml_syntax.specs.Read.{program_of, function_of}
use Rattle.explain_insight.specs.Lenses.{IsHint}
use Rattle.explain_insight.proofs.Each.{AreSoFar, one_more, all_made}
use Rattle.explain_insight.proofs.Places.{at_place, from_place}
use Rattle.explain_insight.proofs.program.hints.Goals as goal

pub hint-requires : goal.hint-requires
hint-requires c =
    let i = c.loop-place.place in
    let funs = c.args.program.now.funs.items in
    let fun = c.index.result.now in
    let long = length-map funs function_of in
    let below : i < length funs = omega (arith, c.loop-place-test.true, c.requires.count, long) in
    let found = at_place (λ found. found) c.args.findings.now i c.index-findings-place.result c.index-findings-place.is c.loop-place-test.true in
    c.requires.told i (function_of fun) c.index-findings-place.result (at_place function_of funs i fun c.index.ensures below) (rw (map-id c.args.findings.now) at found)

pub loop-place-preserved : goal.loop-place-preserved
loop-place-preserved c =
    let Is = (IsHint c.args.source.now) in
    let i = c.loop-place.place in
    let funs = c.args.program.now.funs.items in
    let P = program_of c.args.program.now in
    let all = c.args.findings.now in
    let fun = c.index.result.now in
    let found = c.index-findings-place.result in
    let long = length-map funs function_of in
    let below : i < length funs = omega (arith, c.loop-place-test.true, c.requires.count, long) in
    let next = drop_more all i found c.loop-place-test.true ∙ ap (λ first. first ∷ drop (i + 1) all) (sym c.index-findings-place.is) in
    subst (AreSoFar Is P all (drop (i + 1) P) (drop (i + 1) all)) (sym c.in_ok-push.ensures.items)
    (one_more Is P (drop i P) (drop (i + 1) P) all (drop i all) (drop (i + 1) all) (function_of fun) found c.loop-place.hints.items c.in_ok-hint.field-0
    (from_place function_of funs i fun c.index.ensures below) next c.loop-place.invariant c.in_ok-hint.ensures)

pub returns : goal.returns
returns c =
    let P = program_of c.args.program.now in
    let past : length P ≤ c.loop-place.place = omega (arith, c.loop-place-test.false, c.requires.count) in
    all_made (IsHint c.args.source.now) P _ c.args.findings.now _ c.loop-place.hints.items (drop_all c.loop-place.place P past) c.loop-place.invariant
