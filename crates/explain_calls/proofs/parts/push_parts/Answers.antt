use Rattle.std.proofs.Common.{◌<◌, ◌≤◌, sym, ap, ◌∙◌, [], ◌∷◌, ◌++◌, ◌+◌, drop, length, string_bytes, arith}
use Rattle.std.proofs.lemmas.List.{drop_all, drop_more, append_assoc, append-nil, length-map, map-id}
use Rattle.raml_syntax.specs.Read.{program_of, function_of}
use Rattle.explain_calls.specs.Read.{showing_in}
use Rattle.explain_calls.proofs.Behind.{one_more, all_told}
use Rattle.explain_calls.proofs.Places.{from_place, at_place}
use Rattle.explain_calls.proofs.parts.push_parts.Goals as goal

pub loop-place-init : goal.loop-place-init
loop-place-init c = ([], λ rest are. are, sym (append-nil _))

pub push_asked-requires-clause-found : goal.push_asked-requires-clause-found
push_asked-requires-clause-found c =
    let i = c.loop-place.place in
    let funs = c.args.program.now.funs.items in
    let long = length-map funs function_of in
    let below : i < length funs = omega (arith, c.loop-place-test.true, c.requires.count, long) in
    let found = at_place (λ found. found) c.args.findings.now i c.index-findings-place.result c.index-findings-place.is c.loop-place-test.true in
    c.requires.found i (function_of c.index-fun.result.now) c.index-findings-place.result (at_place function_of funs i c.index-fun.result.now c.index-fun.ensures below) (rw (map-id c.args.findings.now) at found)

pub loop-place-preserved : goal.loop-place-preserved
loop-place-preserved c =
    let i = c.loop-place.place in
    let funs = c.args.program.now.funs.items in
    let P = program_of c.args.program.now in
    let all = c.args.findings.now in
    let fun = c.index-fun.result.now in
    let found = c.index-findings-place.result in
    let so_far = c.loop-place.invariant in
    let told = c.in_ok-push_asked.ensures in
    let long = length-map funs function_of in
    let below : i < length funs = omega (arith, c.loop-place-test.true, c.requires.count, long) in
    let next = drop_more all i found c.loop-place-test.true ∙ ap (λ first. first ∷ drop (i + 1) all) (sym c.index-findings-place.is) in
    let are = one_more P (showing_in c.args.showing.now) P (drop i P) (drop (i + 1) P) all (drop i all) (drop (i + 1) all) (function_of fun) found so_far.0 told.0
    (from_place function_of funs i fun c.index-fun.ensures below) next so_far.1 told.1 in
    (so_far.0 ++ told.0, are, told.2 ∙ ap (λ text. text ++ told.0) so_far.2 ∙ append_assoc (string_bytes c.args.text.now) so_far.0 told.0)

pub returns : goal.returns
returns c =
    let P = program_of c.args.program.now in
    let so_far = c.loop-place.invariant in
    let past : length P ≤ c.loop-place.place = omega (arith, c.loop-place-test.false, c.requires.count) in
    (so_far.0, all_told P (showing_in c.args.showing.now) P _ c.args.findings.now _ so_far.0 (drop_all c.loop-place.place P past) so_far.1, so_far.2)
