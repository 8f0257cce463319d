use Rattle.std.proofs.Common.{◌≡◌, ◌+◌, ◌++◌, ◌∷◌, [], map, drop, Some, sym, ap, subst, ◌∙◌}
use Rattle.std.specs.Prelude.{option_map}
use Rattle.std.proofs.lemmas.List.{map-append}
use Rattle.serde_json.specs.View.{view}
use Rattle.cert_json.specs.Read.{block_of}
use Rattle.cert_json.specs.Reading as spec
use Rattle.cert_json.specs.Steps.{read_blocks, map_ok}
use Rattle.cert_json.specs.declared.whole.Place.TheVariants as place
use Rattle.cert_json.proofs.Likenesses.{blocks_like}
use Rattle.cert_json.proofs.Certificates.{blocks_none, blocks_step}
use Rattle.cert_json.proofs.Walked.{from_here}
use Rattle.cert_json.proofs.Answering.{told}
use Rattle.cert_json.proofs.whole.blocks.Goals as goal

pub returns-in-None : goal.returns-in-None
returns-in-None c =
    let items = c.args.items.now in
    let n = c.loop-number.number in
    let item = c.index-items-number.result in
    let none = sym (subst (λ o. option_map block_of o ≡ spec.block_of spec.number_of c.args.work (view item)) c.in-None.is c.in_ok-block.ensures) in
    let here = from_here view items n item c.loop-number-test.true c.index-items-number.is in
    let stop = blocks_none c.args.work n (map view (drop n items)) (view item) (map view (drop (n + 1) items)) here none in
    told c.fault_at.result c.in_ok-like_block-in-None.field-0 (spec.block_of Some c.args.work (view item)) (place.Block n) (read_blocks c.args.work 0 (map view items)) c.fault_at.ensures
    (c.in_ok-like_block-in-None.ensures ∙ blocks_like c.args.work (view item))
    (c.loop-number.invariant ∙ ap (map_ok (λ more. map block_of c.loop-number.found.items ++ more)) stop)

pub loop-number-preserved : goal.loop-number-preserved
loop-number-preserved c =
    let items = c.args.items.now in
    let n = c.loop-number.number in
    let item = c.index-items-number.result in
    let some = sym (subst (λ o. option_map block_of o ≡ spec.block_of spec.number_of c.args.work (view item)) c.in-Some.is c.in_ok-block.ensures) in
    let here = from_here view items n item c.loop-number-test.true c.index-items-number.is in
    let more = ap (map block_of) c.in_ok-push-in-Some.ensures.items ∙ map-append block_of c.loop-number.found.items (c.in-Some.block ∷ []) in
    blocks_step c.args.work (read_blocks c.args.work 0 (map view items)) (map block_of c.loop-number.found.items) (map block_of c.push.new.self.items) n (map view (drop n items)) (view item) (map view (drop (n + 1) items)) (block_of c.in-Some.block)
    here some more c.loop-number.invariant
