use Rattle.std.proofs.Common.{◌+◌, ◌*◌}
use Rattle.normal_spec.specs.Norm.{size}
use Rattle.normal_spec.specs.Read.{norm_of}
use Rattle.share_normal.proofs.taken.Sharing.+sharing.Given as goal

abbrev pub decreases-share : goal.decreases-share
decreases-share l = 2 * size (norm_of l.marked.expr.now)

abbrev pub decreases-around : goal.decreases-around
decreases-around l = 2 * size (norm_of l.marked.expr.now) + 1

abbrev pub decreases-share_let : goal.decreases-share_let
decreases-share_let l = 2 * (size (norm_of l.bound.expr.now) + size (norm_of l.rest.expr.now)) + 2

abbrev pub decreases-share_split : goal.decreases-share_split
decreases-share_split l = 2 * size (norm_of l.rest.expr.now) + 2

abbrev pub decreases-share_if : goal.decreases-share_if
decreases-share_if l = 2 * (size (norm_of l.first.expr.now) + size (norm_of l.second.expr.now)) + 2

abbrev pub decreases-share_case_list : goal.decreases-share_case_list
decreases-share_case_list l = 2 * (size (norm_of l.empty.expr.now) + size (norm_of l.rest.expr.now)) + 2

abbrev pub decreases-share_case_tree : goal.decreases-share_case_tree
decreases-share_case_tree l = 2 * (size (norm_of l.empty.expr.now) + size (norm_of l.rest.expr.now)) + 2

abbrev pub decreases-share_case_option : goal.decreases-share_case_option
decreases-share_case_option l = 2 * (size (norm_of l.empty.expr.now) + size (norm_of l.rest.expr.now)) + 2

abbrev pub decreases-share_tick : goal.decreases-share_tick
decreases-share_tick l = 2 * size (norm_of l.rest.expr.now) + 2
