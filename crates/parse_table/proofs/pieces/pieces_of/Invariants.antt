use Rattle.std.proofs.Common.{◌≡◌, ◌++◌, map, drop}
use Rattle.parse_table.specs.Tokens.{as_token}
use Rattle.parse_table.specs.Read.{pieces}
use Rattle.parse_table.proofs.pieces.pieces_of.Given as goal

abbrev pub invariant-loop-token : goal.invariant-loop-token
invariant-loop-token l = pieces l.pieces.items ++ map (as_token l.text) (drop l.token-index l.tokens) ≡ map (as_token l.text) l.tokens
