use Rattle.std.proofs.Common.{◌≡◌, ◌∙◌, ap, slice_get, rules}
use Rattle.base_poly.specs.Read.{context_of}
use Rattle.rules_plan.specs.Read.{program_in}
use Rattle.constraint_gen.specs.Weights.{positions_in}
use Rattle.constraint_gen.proofs.Functions.{positions_are}
use Rattle.constraint_gen.proofs.task.positions_of.Goals as goal

pub returns : goal.returns
returns c =
    let f = slice_get (program_in c.args.program.now).funs c.args.fun.0 in
    let found : c.in_ok-found.found.items ≡ positions_in c.args.d c.args.budget c.args.number (context_of c.result_types-types.result.now) = search rules in
    found ∙ ap (positions_in c.args.d c.args.budget c.args.number) c.result_types-types.ensures ∙ positions_are c.args.d c.args.budget c.args.number f
