use Rattle.std.proofs.Common.{◌≡◌, ◌++◌, List, ℕ, length, string_bytes}
use denote.Text.{Utf8}
use denote.Shadow.{shadow}
use Rattle.explain_text.specs.Wrapped.{break_of}
use Rattle.explain_text.specs.Steps.{HasRead}
use Rattle.explain_text.proofs.wrap.wrap_at.Given as goal

abbrev pub invariant-loop-word : goal.invariant-loop-word
invariant-loop-word l = record {
  text : shadow (Utf8 l.rest);
  read : (line : List ℕ) × HasRead (break_of l.indent) line (string_bytes l.lines.text) (string_bytes l.lines.piece) l.lines.is_first × (line ++ l.rest ≡ l.line);
  indent : l.lines.indent ≡ l.indent;
}

abbrev pub decreases-loop-word : goal.decreases-loop-word
decreases-loop-word l = length l.rest
