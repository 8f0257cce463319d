use Rattle.std.proofs.Common.{◌*ℤ◌}
use Rattle.std.proofs.lemmas.Int.{to_z-of_z}
use Rattle.std.specs.Int.{w128}
use Rattle.farkas_check.proofs.Walking.{none_moved, some_moved}
use Rattle.farkas_check.proofs.columns.moved.Goals as goal

pub returns-in_err-totals : goal.returns-in_err-totals
returns-in_err-totals c = rw (c.in_err-totals.was, c.from_residual.ensures) (none_moved (c.args.a *ℤ c.args.b))

pub returns : goal.returns
returns c =
    let m = simp (to_z-of_z w128 _ c.ranges.a, to_z-of_z w128 _ c.ranges.b) at c.with.ensures in
    rw c.in_ok-totals.was (some_moved c.in_ok-totals.field-0 (c.args.a *ℤ c.args.b) c.with.result m)
