use Rattle.std.proofs.Common.{◌≡◌, ◌∙◌, ap, length, Some, slice_get, rules}
use Rattle.normal_spec.specs.Context.{types}
use Rattle.normal_spec.specs.Read.{parameters_of}
use Rattle.constraint_gen.proofs.Functions.{args_there}
use Rattle.constraint_gen.proofs.task.arguments.Goals as goal

pub returns : goal.returns
returns c =
    let there : slice_get c.args.program.now.functions c.args.fun.0 ≡ Some c.fun.result.now = search rules in
    let counts : length c.args.program.now.results ≡ length c.args.program.now.functions = search rules in
    c.in_ok-made.ensures ∙ ap (λ ps. types (parameters_of ps)) c.deref.ensures.value ∙ args_there c.args.program.now.results c.args.program.now.functions c.args.fun.0 c.fun.result.now counts there
