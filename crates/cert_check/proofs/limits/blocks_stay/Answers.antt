use Rattle.std.proofs.Common.{◌∙◌, ◌∷◌, ◌+◌, ap, sym, subst, drop, rules}
use Rattle.std.specs.Prelude.{IsTrue}
use Rattle.annot_types.specs.Read.{block_of, blocks_of}
use Rattle.rules_walk.proofs.Arms.{drop_at}
use Rattle.cert_check.specs.Limits.{AllStay}
use Rattle.cert_check.proofs.Little.{plans_stay}
use Rattle.cert_check.proofs.limits.blocks_stay.Goals as goal

pub loop-block-preserved : goal.loop-block-preserved
loop-block-preserved c = λ little P kept rest.
    let met : IsTrue c.has_plans.result = search rules in
    let k = c.loop-block.block-index in let blocks = c.args.blocks.now in
    let front = drop_at block_of blocks k c.block-item.result c.loop-block-test.true ∙ ap (λ b. block_of b ∷ blocks_of (drop (k + 1) blocks)) (sym c.block-item.is) in
    let stays = plans_stay P c.args.d (block_of c.block-item.result) c.args.kept.now.made.items little kept (c.has_plans.ensures met) in
    c.loop-block.invariant little P kept (subst (AllStay P c.args.d) (sym front) (stays, rest))
