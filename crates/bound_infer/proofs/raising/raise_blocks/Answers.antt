use Rattle.std.proofs.Common.{◌≡◌, ℕ, Result, Err, ap, subst}
use Rattle.bound_infer.specs.declared.fault.RaiseFault.{RaiseFault}
use Rattle.annot_types.specs.Read.{blocks_of}
use Rattle.bound_infer.specs.Raised.{FirstUnfit}
use Rattle.bound_infer.specs.declared.fault.RaiseFault.TheVariants as fault
use Rattle.bound_infer.proofs.OneByOne.{next_raised, first_unfit, all_fit}
use Rattle.bound_infer.proofs.raising.raise_blocks.Goals as goal

pub loop-place-preserved : goal.loop-place-preserved
loop-place-preserved c = next_raised c.args.meter c.args.factor.now c.loop-place.place c.args.blocks.now _ c.index-blocks-place.result c.loop-place-test.true c.loop-place.invariant
    c.raise_one.new.block c.in-Ok.ensures.raised c.in-Ok.ensures.fit

pub returns-in-Err-Leaves-clause-leaves : goal.returns-in-Err-Leaves-clause-leaves
returns-in-Err-Leaves-clause-leaves c place e = subst (FirstUnfit c.args.meter c.args.factor.now (blocks_of c.args.blocks.now)) (same c.loop-place.place place e)
    (first_unfit c.args.meter c.args.factor.now c.loop-place.place c.args.blocks.now _ c.index-blocks-place.result c.loop-place-test.true c.loop-place.invariant (c.in-Err-Leaves.ensures.of_meter (ap Err c.in-Err-Leaves.field-0-is)) (c.in-Err-Leaves.ensures.leaves (ap Err c.in-Err-Leaves.field-0-is)))
  where
    same : (a b : ℕ) → ◌≡◌ {A = Result (Unit {0}) RaiseFault} (Err (fault.Leaves a)) (Err (fault.Leaves b)) → a ≡ b
    same a b e = cc

pub returns-clause-fit : goal.returns-clause-fit
returns-clause-fit c = all_fit c.args.meter c.args.factor.now c.loop-place.place c.args.blocks.now _ c.loop-place-test.false c.loop-place.invariant
