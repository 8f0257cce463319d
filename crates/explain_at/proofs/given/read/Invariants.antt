use Rattle.std.proofs.Common.{◌≡◌, [], Ok, length}
use denote.Text.{Utf8}
use denote.Shadow.{shadow}
use Rattle.explain_at.specs.Words.{words_of, words_read}
use Rattle.explain_at.specs.Read.{all_given}
use Rattle.explain_at.proofs.given.read.Given as goal

abbrev pub invariant-loop-word : goal.invariant-loop-word
invariant-loop-word l = record {
  text : shadow (Utf8 l.rest);
  read : words_read (Ok (all_given l.given.items)) (words_of l.rest) ≡ words_read (Ok []) (words_of l.text);
}

abbrev pub decreases-loop-word : goal.decreases-loop-word
decreases-loop-word l = length l.rest
