use Rattle.std.proofs.Common.{arith}
use Rattle.lsp_frames.proofs.Numbers.{number_step}
use Rattle.lsp_frames.proofs.field.capped_number.Goals as goal

pub loop-digit-preserved : goal.loop-digit-preserved
loop-digit-preserved c = record {
  small = omega (arith, c.with_digit-number.ensures);
  same = number_step c.args.digits.now c.loop-digit.digit-index c.loop-digit.number c.with_digit-number.result _ _ (omega arith) c.with_digit-number.ensures c.loop-digit.invariant.same;
}
