use Rattle.raml_syntax.specs.Read.{program_of, function_of}
use Rattle.explain_profile.specs.Read.{sizes_in}
use Rattle.explain_profile.proofs.Found.{are_found, can_be_told}
use Rattle.explain_profile.proofs.runs.runs_at.Goals as goal

pub runs_for-requires : goal.runs_for-requires
runs_for-requires c =
    can_be_told (program_of c.args.typed.now) c.args.fun.0 c.args.case.most (function_of c.fun_at-function.result.now) c.in_ok-found.found c.fun_at-function.ensures
    c.in_ok-found.ensures

pub returns : goal.returns
returns c =
    are_found (program_of c.args.typed.now) c.args.fun.0 c.args.case.most (sizes_in c.args.case.sizes) (function_of c.fun_at-function.result.now)
    c.in_ok-found.found c.runs_for.result c.fun_at-function.ensures c.in_ok-found.ensures c.runs_for.ensures
