use Rattle.std.proofs.Common.{◌≡◌, ◌∙◌, ap, Err}
use Rattle.simplex.specs.declared.fault.Fault.{Fault}
use Rattle.simplex.proofs.Opens.{gains_open, gains_leave}
use Rattle.simplex.proofs.opening.opening_gains.Goals as goal

pub returns-in-Ok-clause-row : goal.returns-in-Ok-clause-row
returns-in-Ok-clause-row c = gains_open c.args.system.now c.push_right_sides.new.gains (rw c.rows.ensures.all at c.in-Ok.ensures.opened)

pub returns-in-Err-clause-leaves : goal.returns-in-Err-clause-leaves
returns-in-Err-clause-leaves c i k e =
    let same : c.in_row.result ≡ Fault.Leaves i k = cc in
    let f = c.in_row.ensures i k same in
    let there = rw c.rows.ensures.all at c.in-Err.ensures.leaves k (ap Err f.1) in
    gains_leave c.args.system.now i k (f.0 ∙ c.unknowns.ensures) there.0 there.1
