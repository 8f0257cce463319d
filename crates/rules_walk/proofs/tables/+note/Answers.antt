use Rattle.std.proofs.Common.{◌≡◌, ◌++◌, ◌∷◌, [], ap, ◌∙◌, map, slice_set, slice_index_or}
use Rattle.rules_walk.specs.Signed.{front}
use Rattle.rules_walk.proofs.Counting.{added_back, same_default}
use Rattle.rules_walk.proofs.tables.+note.Goals as goal

pub returns-in-Err-clause-kept : goal.returns-in-Err-clause-kept
returns-in-Err-clause-kept t c =
    let us = map (λ us. us.items) c.args.uses.now.items in
    let noted = (slice_index_or c.args.signed.now c.args.place c.index-signed-place.result).function in
    let k = (slice_index_or c.args.signed.now c.args.place c.index-signed-place-in-Err.result).function in
    let same : noted ≡ k = ap (λ s. s.function) (same_default c.args.signed.now c.args.place c.index-signed-place.result c.index-signed-place-in-Err.result c.if-place-signed.false) in
    c.forget.ensures
    ∙ ap (λ us. slice_set us k (front (slice_index_or us k [])))
    (c.in-Err.ensures.kept ∙ c.in_ok-note.ensures.noted ∙ ap (λ j. slice_set us j (slice_index_or us j [] ++ c.args.usage ∷ [])) same)
    ∙ added_back us k c.args.usage
