use Rattle.std.proofs.Common.{◌≡◌, ◌≤◌, length, take}
use Rattle.lsp_frames.specs.Marks.{before_blanks}
use Rattle.lsp_frames.proofs.blanks.last_end.Given as goal

abbrev pub invariant-loop-end : goal.invariant-loop-end
invariant-loop-end l = record {
  within : l.end ≤ length l.text;
  seen : before_blanks (take l.end l.text) ≡ before_blanks l.text;
}

abbrev pub decreases-loop-end : goal.decreases-loop-end
decreases-loop-end l = l.end
