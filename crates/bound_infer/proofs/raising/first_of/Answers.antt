use Rattle.bound_infer.proofs.Mapped.{never}
use Rattle.bound_infer.proofs.OneByOne.{none_next, none_at_all}
use Rattle.bound_infer.proofs.raising.first_of.Goals as goal

pub loop-place-preserved : goal.loop-place-preserved
loop-place-preserved c = none_next c.args.meter c.args.blocks.now c.loop-place.place c.index-blocks-place.result c.loop-place-test.true c.index-blocks-place.is c.loop-place.invariant (λ of. never (c.if-is_solved_for.ensures.1 of))

pub returns-clause-none : goal.returns-clause-none
returns-clause-none c = none_at_all c.args.meter c.args.blocks.now c.loop-place.place c.loop-place-test.false c.loop-place.invariant
