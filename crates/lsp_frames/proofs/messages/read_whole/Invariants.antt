use Rattle.std.proofs.Common.{length}
use Rattle.lsp_frames.specs.Read.{contents_of, LeavesBehind}
use Rattle.lsp_frames.proofs.messages.read_whole.Given as goal

abbrev pub invariant-loop-content : goal.invariant-loop-content
invariant-loop-content l = record { read : LeavesBehind (contents_of l.fn.contents.items) l.fn.reader (contents_of l.contents.items) l.reader }

abbrev pub decreases-loop-content : goal.decreases-loop-content
decreases-loop-content l = length l.reader
