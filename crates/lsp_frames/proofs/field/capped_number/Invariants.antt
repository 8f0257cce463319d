use Rattle.std.proofs.Common.{◌≡◌, ◌≤◌, ◌+◌, drop, min}
use Rattle.lsp_frames.specs.Fields.{most_content, number_after}
use Rattle.lsp_frames.proofs.field.capped_number.Given as goal

abbrev pub invariant-loop-digit : goal.invariant-loop-digit
invariant-loop-digit l = record {
  small : l.number ≤ most_content + 1;
  same : min (number_after l.number (drop l.digit-index l.digits)) (most_content + 1) ≡ min (number_after 0 l.digits) (most_content + 1);
}
