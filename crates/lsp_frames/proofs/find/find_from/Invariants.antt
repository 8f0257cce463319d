use Rattle.std.proofs.Common.{◌-◌, length}
use Rattle.lsp_frames.specs.Marks.{NoneBefore}
use Rattle.lsp_frames.proofs.find.find_from.Given as goal

abbrev pub invariant-loop-place : goal.invariant-loop-place
invariant-loop-place l = NoneBefore l.mark l.place l.bytes

abbrev pub decreases-loop-place : goal.decreases-loop-place
decreases-loop-place l = length l.bytes - l.place
