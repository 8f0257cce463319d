use Rattle.std.proofs.Common.{arith}
use Rattle.raml_io.proofs.Grown.{grown_more}
use Rattle.raml_io.proofs.sink.put_all.Goals as goal

pub loop-done-preserved : goal.loop-done-preserved
loop-done-preserved g c = record {
  within = omega (arith, c.loop-done.invariant.within, c.in_ok-done.ensures.within);
  written = grown_more _ _ _ _ _ _ c.loop-done.invariant.written c.in_ok-done.ensures.grew;
  later = omega (arith, c.put.ensures.later, c.loop-done.invariant.later);
}
