use Rattle.std.proofs.Common.{◌-◌, length}
use Rattle.raml_lex.proofs.Cuts.{CutTo}
use Rattle.raml_lex.proofs.lex.tokens.Given as goal

abbrev pub invariant-loop-at : goal.invariant-loop-at
invariant-loop-at l = CutTo l.bytes l.at l.tokens.items

abbrev pub decreases-loop-at : goal.decreases-loop-at
decreases-loop-at l = length l.bytes - l.at
