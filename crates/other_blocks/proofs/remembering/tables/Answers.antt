use Rattle.std.proofs.Common.{◌≡◌, ◌<◌, ◌++◌, ◌∷◌, [], ap, sym, ◌∙◌, subst, refl, length, take, rules}
use Rattle.std.proofs.lemmas.List.{length-map}
use Rattle.normal_spec.specs.Two.{norm_fun}
use Rattle.share_normal.specs.Program.{source_in}
use Rattle.annot_types.specs.Read.{block_of, blocks_of, certificate_of}
use Rattle.rules_plan.specs.Read.{program_in}
use Rattle.rules_walk.specs.Remembers.{Remembers}
use Rattle.cert_check.proofs.Walking.{front_is}
use Rattle.other_blocks.proofs.Over.{solved_within}
use Rattle.other_blocks.proofs.remembering.tables.Goals as goal

pub loop-number-init : goal.loop-number-init
loop-number-init c =
    let kept = c.args.program.now in
    let count : length (program_in kept).funs ≡ c.len.result =
    ap length c.functions-functions.ensures.norm ∙ length-map (source_in kept) (norm_fun (source_in kept)) ∙ sym c.functions-functions.ensures.count ∙ sym c.len.ensures in
    c.in_ok-earlier.ensures (program_in kept) c.args.certificate.now.degree count

pub loop-number-preserved : goal.loop-number-preserved
loop-number-preserved c =
    let P = program_in c.args.program.now in
    let held = certificate_of c.args.certificate.now in
    let xs = c.args.certificate.now.blocks.items in
    let k = c.loop-number.number in
    let low : k < length xs = search rules in
    subst (λ bs. Remembers P held.degree bs c.remember_block.new.earlier) (sym (front_is P held xs k c.index-block.result.now low))
    (subst (λ b. Remembers P held.degree (take k (blocks_of xs) ++ b ∷ []) c.remember_block.new.earlier) (ap block_of c.index-block.ensures)
    (c.in_ok-remember_block.ensures (take k (blocks_of xs)) c.loop-number.invariant))

pub remember_block-requires : goal.remember_block-requires
remember_block-requires c =
    let xs = c.args.certificate.now.blocks.items in
    let low : c.loop-number.number < length xs = search rules in
    solved_within (program_in c.args.program.now) (certificate_of c.args.certificate.now) xs refl c.requires.small c.loop-number.number c.index-block.result.now low c.index-block.ensures
