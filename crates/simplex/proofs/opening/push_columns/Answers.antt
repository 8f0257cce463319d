use Rattle.std.proofs.Common.{◌≡◌, ap, ◌∙◌, Err, arith, length}
use Rattle.linear_rows.specs.Terms.{coefficient}
use Rattle.simplex.specs.declared.fault.Fault.{Fault}
use Rattle.simplex.proofs.Opens.{below_at, column_leaves, of_error}
use Rattle.simplex.proofs.opening.push_columns.Goals as goal

pub push_terms-requires-clause-below : goal.push_terms-requires-clause-below
push_terms-requires-clause-below c u q =
    ap (coefficient u) c.terms.ensures.all
    ∙ below_at (length c.args.rows.now) c.args.inequalities.now c.loop-j.j c.index-inequalities-j.result c.requires.below c.loop-j-test.true c.index-inequalities-j.is u (let l = c.loop-j.invariant.count in omega arith)

pub returns-in_err-push_terms-clause-leaves : goal.returns-in_err-push_terms-clause-leaves
returns-in_err-push_terms-clause-leaves c i k e =
    let same : c.in_err-push_terms.field-0.0 ≡ Fault.Leaves i k = of_error _ _ _ c.from_residual.ensures.1 e in
    let f = c.in_err-push_terms.ensures.leaves i k (ap Err same) in
    let count = c.loop-j.invariant.count in
    let inside = f.0 in
    let column = f.1 in
    (omega arith, omega arith, column_leaves i c.loop-j.j k c.args.inequalities.now c.index-inequalities-j.result c.terms.result.now c.loop-j-test.true c.index-inequalities-j.is c.terms.ensures.all f.1 f.2)
