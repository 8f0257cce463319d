use Rattle.std.proofs.Common.{rules}
use Rattle.raml_syntax.specs.Read.{ty_of}
use Rattle.normal_spec.specs.Read.{norm_of, parameters_of}
use Rattle.rules_plan.proofs.Lower.{bound_is, is_bound}
use Rattle.rules_plan.proofs.within.+within.Goals as goal

pub check_let-returns-in_err-check_bound-clause-many : goal.check_let-returns-in_err-check_bound-clause-many
check_let-returns-in_err-check_bound-clause-many t c e w =
    let bound = bound_is 2000 (norm_of c.args.a.now) (parameters_of c.args.context.now) (ty_of c.args.bound.now) c.args.d w.0 in
    search (rules, bound, e)

pub check_let-returns-clause-fits : goal.check_let-returns-clause-fits
check_let-returns-clause-fits t c =
    let bound = is_bound 2000 (norm_of c.args.a.now) (parameters_of c.args.context.now) (ty_of c.args.bound.now) c.args.d in
    search (rules, bound)
