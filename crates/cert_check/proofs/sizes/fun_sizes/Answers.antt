use Rattle.std.specs.Prelude.{slice_get}
use Rattle.raml_syntax.specs.Read.{ty_of}
use Rattle.normal_spec.specs.Read.{parameters_of}
use Rattle.rules_plan.specs.Read.{program_in}
use Rattle.cert_check.proofs.Small.{params_within, result_within}
use Rattle.cert_check.proofs.sizes.fun_sizes.Goals as goal

pub args_size-requires : goal.args_size-requires
args_size-requires c =
    params_within (slice_get (program_in c.args.program.now).funs c.args.fun.0) c.args.d (parameters_of c.in-Some.params.now) c.in-Some.ensures c.requires

pub result_size-requires : goal.result_size-requires
result_size-requires c =
    result_within (program_in c.args.program.now).funs c.args.fun.0 c.args.d (ty_of c.in-Some-result_of.ty.now) c.in-Some-result_of.ensures.there c.requires
