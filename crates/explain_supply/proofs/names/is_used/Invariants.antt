use Rattle.std.proofs.Common.{◌≡◌, drop}
use Rattle.parse_table.specs.Read.{pieces}
use Rattle.explain_supply.specs.Names.{is_used}
use Rattle.explain_supply.proofs.names.is_used.Given as goal

abbrev pub invariant-loop-token : goal.invariant-loop-token
invariant-loop-token l = is_used l.name (pieces (drop l.token-index l.tokens)) ≡ is_used l.name (pieces l.tokens)
