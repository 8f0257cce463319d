use Rattle.std.proofs.Common.{◌+◌}
use Rattle.raml_num.proofs.Quotients.{Decides}
use Rattle.raml_num.proofs.cross_cmp.Given as goal

abbrev pub invariant-loop-a : goal.invariant-loop-a
invariant-loop-a l = Decides l.a l.b l.c l.d l.fn.a l.fn.b l.fn.c l.fn.d

abbrev pub decreases-loop-a : goal.decreases-loop-a
decreases-loop-a l = l.b + l.d
