use Rattle.std.proofs.Common.{◌≡◌, ◌<◌, ◌++◌, ◌∷◌, ◌∙◌, [], ℕ, ap, cond, length, slice_index_or, rules, arith}
use Rattle.std.specs.List.{list_any}
use Rattle.std.proofs.lemmas.List.{get_or_default}
use Rattle.std.proofs.lemmas.Bool.Decides.{nat_tests}
use Rattle.base_poly.specs.Plain.{alike}
use Rattle.constraint_gen.proofs.Functions.{filter_next}
use Rattle.constraint_gen.proofs.task.positions.Goals as goal

pub loop-place-preserved : goal.loop-place-preserved
loop-place-preserved c =
    let all = c.in_ok-all.all.items in
    let place = c.loop-place.place in
    let test = λ (k : ℕ). list_any (alike (slice_index_or all k [])) c.args.target.now in
    let in_range : place < length all = grind (arith, nat_tests, c.loop-place-test.true, c.len-place-end.ensures) in
    let tuple : c.index.result.now ≡ slice_index_or all place [] = c.index.ensures ∙ get_or_default all place c.index.result.now [] in_range in
    let any = c.is_among.ensures ∙ ap (λ t. list_any (alike t) c.args.target.now) tuple in
    let one : c.append_place.new.found.items ≡ c.loop-place.found.items ++ cond c.is_among.result (place ∷ []) [] = search rules in
    one ∙ (λ i. c.loop-place.invariant i ++ cond (any i) (place ∷ []) []) ∙ filter_next test place
