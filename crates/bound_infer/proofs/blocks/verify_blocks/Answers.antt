use Rattle.std.proofs.Common.{◌≡◌, ◌<◌, ap, sym, ◌∙◌, subst, length, take, arith, rules, Some}
use Rattle.std.specs.Prelude.{slice_get}
use Rattle.std.proofs.lemmas.List.{length-map}
use Rattle.normal_spec.specs.Two.{norm_fun}
use Rattle.share_normal.specs.Program.{source_in}
use Rattle.annot_types.specs.Read.{block_of, blocks_of, certificate_of}
use Rattle.rules_plan.specs.Read.{program_in}
use Rattle.rules_walk.specs.Remembers.{Remembers}
use Rattle.bound_infer.proofs.Blocked.{clear_more, caused}
use Rattle.bound_infer.proofs.Fronts.{item_there, front_more}
use Rattle.bound_infer.proofs.blocks.verify_blocks.Goals as goal

pub loop-number-init : goal.loop-number-init
loop-number-init c =
    let kept = c.args.program.now in
    let count : length (program_in kept).funs ≡ c.len.result =
    ap length c.functions-functions.ensures.norm ∙ length-map (source_in kept) (norm_fun (source_in kept)) ∙ sym c.functions-functions.ensures.count ∙ sym c.len.ensures in
    record {
      clear = λ place block low. absurd (omega (arith, low));
      remembers = c.in-Ok.ensures (program_in kept) c.args.certificate.now.degree count;
    }

pub verify_block-requires-clause-there : goal.verify_block-requires-clause-there
verify_block-requires-clause-there c =
    let xs = c.args.certificate.now.blocks.items in
    let k = c.loop-number.number in
    let low : k < length xs = search rules in
    item_there xs k c.index-block.result.now low ∙ ap (λ b. Some (block_of b)) (sym c.index-block.ensures)

pub returns-in-Err-clause-fault : goal.returns-in-Err-clause-fault
returns-in-Err-clause-fault c =
    let xs = c.args.certificate.now.blocks.items in
    let k = c.loop-number.number in
    let low : k < length xs = search rules in
    caused (program_in c.args.program.now) (certificate_of c.args.certificate.now) c.requires.passes k c.loop-number.invariant.clear (block_of c.index-block.result.now)
    (item_there xs k c.index-block.result.now low ∙ ap (λ b. Some (block_of b)) (sym c.index-block.ensures)) c.in-Err.fault
    (c.in-Err.ensures c.loop-number.invariant.remembers)

pub loop-number-preserved : goal.loop-number-preserved
loop-number-preserved c =
    let P = program_in c.args.program.now in
    let held = certificate_of c.args.certificate.now in
    let xs = c.args.certificate.now.blocks.items in
    let k = c.loop-number.number in
    let low : k < length xs = search rules in
    let there : slice_get (blocks_of xs) k ≡ Some (block_of c.index-block.result.now) =
    item_there xs k c.index-block.result.now low ∙ ap (λ b. Some (block_of b)) (sym c.index-block.ensures) in
    record {
      clear = clear_more P held k (block_of c.index-block.result.now) c.loop-number.invariant.clear there (c.in_default-verify_block.ensures c.loop-number.invariant.remembers);
      remembers = subst (λ bs. Remembers P held.degree bs c.remember.new.earlier) (sym (front_more (blocks_of xs) k (block_of c.index-block.result.now) there))
          (c.in_default-remember.ensures (take k (blocks_of xs)) c.loop-number.invariant.remembers);
    }
