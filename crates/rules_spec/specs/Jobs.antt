-- The job of a task.
use Rattle.std.specs.Prelude.{ℕ, List, [], ◌∷◌, map, filter, slice_get, slice_index_or, Option, None, Some}
use Rattle.std.specs.List.{range_with_len, list_any}
use Rattle.std.specs.Option.{unwrap_or}
use Rattle.raml_syntax.specs.Tree.{Type'}
use Rattle.base_poly.specs.Plain.{alike}
use Rattle.base_poly.specs.Indices.{index_list}
use Rattle.normal_spec.specs.Norm.{NormFun}
use Rattle.normal_spec.specs.Context.{types}
use Rattle.cost_free.specs.Target.{Target, targets}
use Rattle.cost_free.specs.Task as k
use Rattle.cost_free.specs.Task.{Task, Kind, Free}
use Rattle.annot_types.specs.Program.{Program, members}
use Rattle.annot_types.specs.Certificate.{Block}
use Rattle.annot_types.specs.Holds.{mode_of, budget_of}
use Rattle.annot_types.specs.Rows.{size as size_of}
use Rattle.annot_types.specs.System.{unsigned}
use Rattle.rules_spec.specs.Plan.{Ends}
use Rattle.rules_spec.specs.Planned.{plan, place_in}
use Rattle.rules_spec.specs.Found.{free_from, cost_from}
use Rattle.rules_spec.specs.Tasks.{Body, Job}

-- a function of the group, at the budget of the block; nothing is asked where there is no such function
abbrev pub body_of : Program → List ℕ → List Block → ℕ → Option NormFun → Body
body_of P group earlier budget None = record { plan = Ends 0 0 []; args = 0; result = 0 }
body_of P group earlier budget (Some g) = record {
  plan = plan P group earlier budget g.body g.params g.result budget;
  args = size_of (types g.params) budget;
  result = size_of (g.result ∷ []) budget;
}

-- the positions of a target's tuples, ascending
abbrev pub positions : Type' → ℕ → Target → List ℕ
positions A budget target =
    filter (λ k. list_any (alike (slice_index_or (index_list (A ∷ []) budget) k [])) target) (range_with_len 0 (size_of (A ∷ []) budget))

abbrev pub positions_of : ℕ → ℕ → ℕ → Option NormFun → List ℕ
positions_of d budget number None = []
positions_of d budget number (Some g) = positions g.result budget (slice_index_or (targets g.result d) number [])

-- of a cost-free task, the place of the target's function in the group, and the positions of the target
abbrev pub target_place : List ℕ → Kind → ℕ
target_place group (Free budget f number) = unwrap_or (place_in group f) 0
target_place group (k.With meter) = 0

abbrev pub target_positions : Program → ℕ → Kind → List ℕ
target_positions P d (Free budget f number) = positions_of d budget number (slice_get P.funs f)
target_positions P d (k.With meter) = []

-- of a task at degree d over earlier blocks, with prices at this scale
abbrev pub job_of : Program → ℕ → List Block → Task → ℕ → Job
job_of P d earlier task scale =
    let group = members P task.group in
    let budget = budget_of d task.kind in
    let S = unsigned P d earlier task scale in
    record {
      bodies = map (λ f. body_of P group earlier budget (slice_get P.funs f)) group;
      mode = mode_of task.kind;
      scale = scale;
      budget = budget;
      free = free_from S;
      cost = cost_from S;
      function = target_place group task.kind;
      target = target_positions P d task.kind;
    }
