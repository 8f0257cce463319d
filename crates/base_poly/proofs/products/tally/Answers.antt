use Rattle.std.proofs.Common.{ap, ◌∙◌, arith}
use Rattle.base_poly.proofs.Counted.{numbers, one_more_number, counted_step}
use Rattle.base_poly.specs.Count.{counts_of}
use Rattle.base_poly.proofs.products.tally.Goals as goal

pub loop-term-preserved : goal.loop-term-preserved
loop-term-preserved c =
    let more = ap numbers c.in_ok-count_one.ensures ∙ one_more_number (counts_of c.loop-term.found.entries) _ in
    let before = c.loop-term.invariant.numbers in
    record {
      counted = counted_step _ _ _ _ _ _ _ c.loop-term-test.true c.term-item.is c.in_ok-copy.ensures c.in_ok-count_one.ensures c.loop-term.invariant.counted;
      numbers = omega (arith, more, before);
    }
