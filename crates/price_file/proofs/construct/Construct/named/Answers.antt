use Rattle.std.proofs.Common.{◌∙◌, sym}
use Rattle.price_file.specs.Construct.{constructs}
use Rattle.price_file.proofs.Entries.{next_named}
use Rattle.price_file.proofs.construct.Construct.named.Goals as goal

pub loop-construct-preserved : goal.loop-construct-preserved
loop-construct-preserved c =
    next_named c.args.word.now c.name.result.now constructs c.loop-construct.construct-index _ c.loop-construct-test.true c.name.ensures (sym c.eq.ensures ∙ c.if-eq.false) _ c.loop-construct.invariant
