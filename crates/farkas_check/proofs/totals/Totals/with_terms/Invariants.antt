use Rattle.std.proofs.Common.{drop}
use Rattle.farkas_check.specs.Sides.{sparse_products}
use Rattle.farkas_check.proofs.Carrying.{Carries}
use Rattle.farkas_check.proofs.totals.Totals.with_terms.Given as goal

abbrev pub invariant-loop-term : goal.invariant-loop-term
invariant-loop-term l = Carries l.fn.self l.totals (sparse_products l.terms l.x) (sparse_products (drop l.term-index l.terms) l.x)
