use Rattle.std.proofs.Common.{Err, ap}
use Rattle.tuple_ranks.proofs.Made.{of_fault}
use Rattle.tuple_ranks.proofs.Loops.{got, member_large}
use Rattle.tuple_ranks.proofs.spots.all_sizes.Goals as goal

pub returns-in_err-sizes_of-clause-many : goal.returns-in_err-sizes_of-clause-many
returns-in_err-sizes_of-clause-many c = λ e.
    member_large c.args.types.now c.loop-ty.ty-index c.ty-item.result c.args.d (got c.args.types.now c.loop-ty.ty-index c.ty-item.result c.loop-ty-test.true c.ty-item.is)
    (c.in_err-sizes_of.ensures.many (ap Err (of_fault _ _ c.from_residual-in_err-sizes_of.ensures.1 e)))
