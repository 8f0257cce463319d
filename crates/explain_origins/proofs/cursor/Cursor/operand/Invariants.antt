use Rattle.std.proofs.Common.{◌≡◌}
use Rattle.raml_syntax.specs.Read.{term_of}
use Rattle.explain_origins.specs.Cursors.{left}
use Rattle.explain_origins.proofs.cursor.Cursor.operand.Given as goal

-- what is left there is what is left at first
abbrev pub invariant-loop-place : goal.invariant-loop-place
invariant-loop-place l = left (term_of l.self.expr.now) l.place ≡ left (term_of l.self.expr.now) l.self.bound
