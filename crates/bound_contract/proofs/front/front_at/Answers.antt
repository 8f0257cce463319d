use Rattle.std.proofs.Common.{rules, ◌<◌, ◌++◌, ◌∷◌, [], refl, ap, sym, subst, length, take}
use Rattle.annot_types.specs.Read.{block_of, blocks_of, certificate_of}
use Rattle.rules_plan.specs.Read.{program_in}
use Rattle.rules_walk.specs.Remembers.{Remembers}
use Rattle.cert_check.proofs.Walking.{front_is}
use Rattle.other_blocks.proofs.Over.{solved_within}
use Rattle.bound_contract.proofs.front.front_at.Goals as goal

pub loop-number-preserved : goal.loop-number-preserved
loop-number-preserved c =
    let P = program_in c.args.program.now in
    let held = certificate_of c.args.certificate.now in
    let xs = c.args.certificate.now.blocks.items in
    let k = c.loop-number.number in
    let low : k < length xs = search rules in
    subst (λ bs. Remembers P held.degree bs c.remember_block.new.earlier) (sym (front_is P held xs k c.index-block.result.now low))
    (subst (λ b. Remembers P held.degree (take k (blocks_of xs) ++ b ∷ []) c.remember_block.new.earlier) (ap block_of c.index-block.ensures)
    (c.in_ok-remember_block.ensures (take k (blocks_of xs)) c.loop-number.invariant))

pub remember_block-requires : goal.remember_block-requires
remember_block-requires c =
    let xs = c.args.certificate.now.blocks.items in
    let low : c.loop-number.number < length xs = search rules in
    solved_within (program_in c.args.program.now) (certificate_of c.args.certificate.now) xs refl c.requires.small c.loop-number.number c.index-block.result.now low c.index-block.ensures
