use Rattle.std.proofs.Common.{◌≡◌, ◌≤◌, ◌++◌, length, take, drop}
use Rattle.std.specs.Prelude.{reverse}
use Rattle.explain_places.specs.Places.{to_newline}
use Rattle.explain_places.proofs.lines.start_of_last.Given as goal

abbrev pub invariant-loop-start : goal.invariant-loop-start
invariant-loop-start l = record {
  within : l.start ≤ length l.text;
  seen : reverse (to_newline (reverse (take l.start l.text))) ++ drop l.start l.text ≡ reverse (to_newline (reverse l.text));
}

abbrev pub decreases-loop-start : goal.decreases-loop-start
decreases-loop-start l = l.start
