use Rattle.std.proofs.Common.{◌≡◌, drop}
use Rattle.explain_scopes.specs.Outline.{last_end}
use Rattle.explain_scopes.proofs.outline.last_end.Given as goal

abbrev pub invariant-loop-token : goal.invariant-loop-token
invariant-loop-token l = last_end l.text l.last.0 (drop l.token-index l.tokens) ≡ last_end l.text l.fn.end.0 l.tokens
