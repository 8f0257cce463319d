use Rattle.std.proofs.Common.{◌≡◌, ◌<◌, refl, ap, ◌∙◌, Err, arith, length}
use Rattle.simplex.specs.declared.fault.Fault.{Fault}
use Rattle.simplex.proofs.Opens.{coefficient_leaves, row_leaves, of_error}
use Rattle.simplex.proofs.opening.opening_rows.Goals as goal

pub returns-in_err-push_columns-clause-leaves : goal.returns-in_err-push_columns-clause-leaves
returns-in_err-push_columns-clause-leaves c i k e =
    let same : c.in_err-push_columns.field-0.0 ≡ Fault.Leaves i k = of_error _ _ _ c.from_residual-in_err-push_columns.ensures.1 e in
    let f = rw c.rows.ensures.all at (c.in_err-push_columns.ensures.leaves i k (ap Err same)) in
    let inside : i < c.args.system.now.unknowns = (let l = f.0 in let count = ap length c.deref_mut.ensures.value ∙ c.in_ok-rows.ensures.count ∙ c.unknowns.ensures in omega arith) in
    row_leaves c.args.system.now i i k inside refl (coefficient_leaves c.args.system.now i k f.1 f.2)

pub returns-in_err-push_columns-clause-inside : goal.returns-in_err-push_columns-clause-inside
returns-in_err-push_columns-clause-inside c i k e =
    let same : c.in_err-push_columns.field-0.0 ≡ Fault.Leaves i k = of_error _ _ _ c.from_residual-in_err-push_columns.ensures.1 e in
    let f = c.in_err-push_columns.ensures.leaves i k (ap Err same) in
    let l = f.0 in
    let count = ap length c.deref_mut.ensures.value ∙ c.in_ok-rows.ensures.count ∙ c.unknowns.ensures in
    omega arith
