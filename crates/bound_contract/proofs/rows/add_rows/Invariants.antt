use Rattle.std.specs.Prelude.{unsigned_abs}
use Rattle.bound_file.specs.Read.{coefficients_of}
use Rattle.bound_contract.proofs.Adding.{Added}
use Rattle.bound_contract.proofs.rows.add_rows.Given as goal

-- the rows of the positions so far were added, and fit
abbrev pub invariant-loop-position : goal.invariant-loop-position
invariant-loop-position l = Added l.fn.system l.system (coefficients_of l.bound) l.first (unsigned_abs l.scale) l.position
