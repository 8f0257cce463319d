use Rattle.constraint_gen.proofs.Collected.{Rest}
use Rattle.constraint_gen.proofs.collector.Collector.take_all.Given as goal

abbrev pub invariant-loop-place : goal.invariant-loop-place
invariant-loop-place l = Rest l.fn.self l.self l.left l.right l.place
