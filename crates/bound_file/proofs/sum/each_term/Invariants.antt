use Rattle.std.proofs.Common.{◌≡◌, ◌++◌, List, length}
use Rattle.std.specs.Option.{option_map}
use denote.Shadow.{shadow}
use denote.Text.{Utf8}
use Rattle.bound_file.specs.Spelling.{Term}
use Rattle.bound_file.specs.Reading.{each_read, pieces}
use Rattle.bound_file.specs.Seen.{terms_of}
use Rattle.bound_file.proofs.sum.each_term.Given as goal

abbrev pub invariant-loop-piece : goal.invariant-loop-piece
invariant-loop-piece l = record {
  read : option_map (λ (ts : List Term). terms_of l.terms.items ++ ts) (each_read (pieces l.rest)) ≡ each_read (pieces l.sum);
  text : shadow (Utf8 l.rest);
}

abbrev pub decreases-loop-piece : goal.decreases-loop-piece
decreases-loop-piece l = length l.rest
