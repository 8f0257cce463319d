use Rattle.std.proofs.Common.{◌≡◌, length, None}
use Rattle.lsp_frames.specs.Marks.{lines}
use Rattle.lsp_frames.specs.Fields.{length_after}
use Rattle.lsp_frames.proofs.head.length_in.Given as goal

abbrev pub invariant-loop-line : goal.invariant-loop-line
invariant-loop-line l = length_after l.told (lines l.rest) ≡ length_after None (lines l.header)

abbrev pub decreases-loop-line : goal.decreases-loop-line
decreases-loop-line l = length l.rest
