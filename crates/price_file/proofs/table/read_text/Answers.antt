use Rattle.std.proofs.Common.{◌<◌, length, rules, arith}
use Rattle.price_file.proofs.Cuts.{behind_is_shorter}
use Rattle.price_file.proofs.Answered.{read_on, read_fault, fault_passed, not_empty}
use Rattle.price_file.proofs.table.read_text.Goals as goal

pub returns-in_err-list_line : goal.returns-in_err-list_line
returns-in_err-list_line c =
    let fault = c.in_err-list_line.field-0.0 in
    fault_passed c.from_residual.result _ fault c.from_residual.ensures.0 c.from_residual.ensures.1
    (read_fault _ c.loop-rest.prices.listed fault c.loop-rest.number c.loop-rest.rest.now c.first_line.result.0.now c.first_line.result.1.now
    (not_empty c.loop-rest.rest.now c.loop-rest-test.ensures) c.first_line.ensures.cut c.in_err-list_line.ensures c.loop-rest.invariant.read)

pub loop-rest-smaller : goal.loop-rest-smaller
loop-rest-smaller c = behind_is_shorter c.loop-rest.rest.now c.first_line.result.0.now c.first_line.result.1.now (not_empty c.loop-rest.rest.now c.loop-rest-test.ensures) c.first_line.ensures.cut

pub loop-rest-preserved : goal.loop-rest-preserved
loop-rest-preserved c =
    let some = not_empty c.loop-rest.rest.now c.loop-rest-test.ensures in
    let shorter : length c.first_line.result.1.now < length c.loop-rest.rest.now = behind_is_shorter c.loop-rest.rest.now c.first_line.result.0.now c.first_line.result.1.now some c.first_line.ensures.cut in
    record {
      read = read_on _ c.loop-rest.prices.listed c.list_line.new.prices.listed c.loop-rest.number c.loop-rest.rest.now c.first_line.result.0.now c.first_line.result.1.now some c.first_line.ensures.cut c.in_ok-list_line.ensures c.loop-rest.invariant.read;
      text = search rules;
      few = omega (arith, shorter, c.loop-rest.invariant.few);
    }
