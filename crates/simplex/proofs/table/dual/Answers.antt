use Rattle.std.proofs.Common.{refl, ap, length, ◌+◌}
use Rattle.simplex.proofs.Solves.{if_ok}
use Rattle.simplex.proofs.Tables.{dual_read}
use Rattle.simplex.proofs.table.dual.Goals as goal

pub returns : goal.returns
returns c t after = if_ok c.spread.result _ _ (λ ys h.
    dual_read c.args.system.now c.rows-count.ensures.sound c.args.table.now.pivots.items c.args.table.now.basis.items c.args.table.now.rows.items c.args.table.now.gains t after
    c.deref.result.now (length c.rows-count.result.now + c.unknowns.result) (length c.rows-count.result.now) c.deref-2.result.now c.in_ok-numbers.numbers.items c.deref-3.result.now ys.items
    c.deref.ensures.value (rw (c.rows-count.ensures.all, c.unknowns.ensures) refl) c.deref-2.ensures.value (ap length c.rows-count.ensures.all) c.deref-3.ensures.value c.in_ok-numbers.ensures h) c.spread.ensures
