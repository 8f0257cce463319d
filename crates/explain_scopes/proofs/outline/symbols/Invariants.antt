use Rattle.std.proofs.Common.{◌≡◌, ◌++◌, drop}
use Rattle.explain_scopes.specs.Outline.{symbols}
use Rattle.explain_scopes.specs.Read.{plain_symbols}
use Rattle.explain_scopes.proofs.outline.symbols.Given as goal

abbrev pub invariant-loop-place : goal.invariant-loop-place
invariant-loop-place l = plain_symbols l.found.items ++ symbols l.text (drop l.place l.tokens) ≡ symbols l.text l.tokens
