use Rattle.std.proofs.Common.{◌∙◌, ap, length, ◌∷◌, List, ℕ}
use Rattle.simplex.proofs.Solves.{if_ok}
use Rattle.simplex.proofs.Tables.{ray_read}
use Rattle.simplex.proofs.table.ray.Goals as goal

pub returns : goal.returns
returns c t after p = if_ok c.spread.result _ _ (λ ys h.
    ray_read c.args.system.now c.rows.ensures.sound c.args.table.now.pivots.items c.args.table.now.basis.items c.args.table.now.rows.items c.args.table.now.gains t after
    c.args.column c.deref.result.now (length c.rows.result.now) c.deref-4.result.now c.in_ok-read.read.items c.deref-2.result.now c.in_ok-numbers.numbers.items c.deref-5.result.now ys.items c.one.result
    p c.deref.ensures.value c.deref-2.ensures.value c.one.ensures.num c.one.ensures.den
    (c.deref-4.ensures.value ∙ c.in_ok-insert-2.ensures.items ∙ ap (λ (bs : List ℕ). c.args.column ∷ bs) (c.in_ok-columns.ensures.items ∙ c.deref-3.ensures.value))
    (ap length c.rows.ensures.all) (c.deref-5.ensures.value ∙ c.in_ok-insert.ensures.items) c.in_ok-read.ensures c.in_ok-numbers.ensures h) c.spread.ensures
