use Rattle.std.proofs.Common.{◌≡◌, ◌-◌}
use denote.Shadow.{shadow}
use denote.Text.{Utf8}
use Rattle.explain_declared.specs.Places.{behind_lines}
use Rattle.explain_declared.proofs.place.from_line.Given as goal

abbrev pub invariant-loop-before : goal.invariant-loop-before
invariant-loop-before l = record {
  is : behind_lines l.before l.rest ≡ behind_lines (l.fn.number - 1) l.fn.text;
  text : shadow (Utf8 l.rest);
}

abbrev pub decreases-loop-before : goal.decreases-loop-before
decreases-loop-before l = l.before
