use Rattle.bound_infer.proofs.OneByOne.{RaisedTo}
use Rattle.bound_infer.proofs.raising.raise_blocks.Given as goal

abbrev pub invariant-loop-place : goal.invariant-loop-place
invariant-loop-place l = RaisedTo l.meter l.factor l.place l.initial.blocks l.blocks
