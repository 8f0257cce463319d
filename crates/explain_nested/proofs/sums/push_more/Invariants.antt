use Rattle.std.proofs.Common.{◌≡◌, ◌++◌, reverse, take, string_bytes}
use Rattle.explain_nested.specs.Text.{texts, more_terms}
use Rattle.explain_nested.proofs.sums.push_more.Given as goal

abbrev pub invariant-loop-place : goal.invariant-loop-place
invariant-loop-place l = string_bytes l.text ++ more_terms l.den (texts l.names) (reverse (take l.place l.terms)) ≡ string_bytes l.fn.text ++ more_terms l.den (texts l.names) (reverse l.terms)
