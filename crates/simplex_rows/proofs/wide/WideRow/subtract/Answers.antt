use Rattle.std.proofs.Common.{◌≡◌, ap, Err}
use Rattle.simplex_rows.specs.declared.fault.RowFault.TheVariants.{Leaves}
use Rattle.simplex_rows.specs.Merging.{MergeLeaves}
use Rattle.simplex_rows.proofs.Pointwise.{each_column, leaves_at, of_error}
use Rattle.simplex_rows.proofs.wide.WideRow.subtract.Goals as goal

pub returns-in_err-put_difference-clause-leaves : goal.returns-in_err-put_difference-clause-leaves
returns-in_err-put_difference-clause-leaves c k e =
    let same : c.in_err-put_difference.field-0.0 ≡ Leaves k = of_error _ _ _ c.from_residual-in_err-put_difference.ensures.1 e in
    let leaves : MergeLeaves c.args.times.now c.rest.result c.rest-2.result k = c.in_err-put_difference.ensures.leaves k (ap Err same) in
    (leaves_at c.args.times.now 0 c.args.self.now c.args.lead.now k c.rest.ensures.sparse c.rest-2.ensures.sparse (rw (c.rest.ensures.all, c.rest-2.ensures.all) at leaves)).1

pub returns-clause-each : goal.returns-clause-each
returns-clause-each c k =
    rw c.swap.ensures.x_after ((each_column c.args.times.now 0 c.args.self.now c.args.lead.now c.put_difference.new.self c.rest.ensures.sparse c.rest-2.ensures.sparse (rw (c.rest.ensures.all, c.rest-2.ensures.all) at c.in_ok-put_difference.ensures.merged)).each k)
