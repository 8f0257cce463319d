use Rattle.std.proofs.Common.{◌≡◌, ap, Err, arith}
use Rattle.simplex.specs.declared.fault.Fault.{Fault}
use Rattle.simplex.proofs.Opens.{rows_open, row_leaves}
use Rattle.simplex.proofs.opening.push_slacks_and_weights.Goals as goal

pub returns-in-Err-clause-leaves : goal.returns-in-Err-clause-leaves
returns-in-Err-clause-leaves c i k e =
    let same : c.in_row.result ≡ Fault.Leaves i k = cc in
    let f = c.in_row.ensures i k same in
    row_leaves c.args.system.now c.loop-unknown.unknown i k (let q = c.unknowns-unknown-end.ensures in omega arith) f.0 (c.in-Err.ensures.leaves k (ap Err f.1))

pub returns-clause-rows : goal.returns-clause-rows
returns-clause-rows c = rows_open c.loop-unknown.unknown c.args.system.now c.loop-unknown.rows (let q = c.unknowns-unknown-end.ensures in omega arith) c.loop-unknown.invariant
