use Rattle.std.proofs.Common.{sym, ◌∙◌, ◌+◌, arith}
use Rattle.lsp_positions.proofs.Units.{units_more, last_more}
use Rattle.lsp_positions.proofs.columns.at_column.Goals as goal

pub loop-place-preserved : goal.loop-place-preserved
loop-place-preserved c =
    let i = c.loop-place.place in
    let line = c.args.line.now in
    let few = c.units_of-used.ensures.few in
    let before = c.last_seen-last.ensures.before c.loop-place.invariant.before in
    record {
      few = omega (arith, few, c.loop-place.invariant.few);
      before = omega (arith, before);
      used = (λ k. c.loop-place.invariant.used k + c.units_of-used.ensures.count k) ∙ sym (units_more c.args.encoding line i (omega arith));
      last = last_more c.args.encoding line c.args.column i c.loop-place.used c.loop-place.last c.last_seen-last.result (omega arith)
          c.loop-place.invariant.used c.loop-place.invariant.last c.last_seen-last.ensures.last;
    }
