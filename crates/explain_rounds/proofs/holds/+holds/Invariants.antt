use Rattle.std.proofs.Common.{◌+◌, ◌*◌, length}
use Rattle.raml_syntax.specs.Read.{term_of}
use Rattle.raml_syntax.specs.Node.{nodes}
use Rattle.explain_rounds.proofs.holds.+holds.Given as goal

abbrev pub decreases-holds_call : goal.decreases-holds_call
decreases-holds_call l = 8 * nodes (term_of l.e.now)

abbrev pub decreases-holds_below : goal.decreases-holds_below
decreases-holds_below l = 8 * nodes (term_of l.e.now) + 1 + length l.names.now
