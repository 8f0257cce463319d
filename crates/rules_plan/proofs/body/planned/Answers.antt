use Rattle.std.specs.Prelude.{◌≡◌, ℕ, [], map}
use Rattle.std.proofs.lemmas.Result.{IfOk-weaker}
use Rattle.call_groups.specs.Read.{ids_of}
use Rattle.annot_types.specs.Program.{members}
use Rattle.rules_plan.specs.Read.{program_in, function_of, group_bodies}
use Rattle.rules_plan.proofs.Grouped.{of_program}
use Rattle.rules_plan.proofs.body.planned.Goals as goal

pub returns : goal.returns
returns c =
    let P = program_in c.args.program.now in
    IfOk-weaker c.bodies_of.result _ (λ made. (group : ℕ) → ids_of c.args.functions.now ≡ members P group → map function_of made.items ≡ group_bodies P group [] c.args.budget)
    (λ made are group same. of_program c.args.program.now c.results.result.now c.functions.result.now group c.args.budget (ids_of c.args.functions.now) made.items
    c.functions.ensures.functions c.results.ensures.results same are) c.bodies_of.ensures
