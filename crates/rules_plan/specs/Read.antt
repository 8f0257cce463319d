-- What the code's plans of groups are as plain data.
use Rattle.std.specs.Prelude.{◌≡◌, ℕ, List, [], map, slice_get, Option}
use Rattle.std.specs.List.{All}
use Rattle.normal_spec.specs.Norm.{NormFun}
use Rattle.annot_types.specs.Program.{Program, members}
use Rattle.annot_types.specs.Certificate.{Block}
use Rattle.rules_spec.specs.Tasks as t
use Rattle.rules_spec.specs.Jobs as j
use Rattle.rules_walk.specs.Read.{plan_of}
use Rattle.share_normal.specs.Program.{Kept, norm_in}
use Rattle.rules_plan.specs.Given.{Given}
use Rattle.rules_walk.specs.declared.plan.Usage.{Usage}
use Rattle.rules_walk.specs.Filled.{table_of, uses_of, filled}
use Rattle.rules_plan.specs.Within.{FunctionWithin}
use Rattle.rules_plan.specs.declared.body.Body.{Body}
use Rattle.rules_plan.specs.declared.body.FunctionPlan.{FunctionPlan}
use Rattle.rules_plan.specs.declared.body.GroupPlans.{GroupPlans}
use Rattle.rules_plan.specs.declared.kept.KeptPlans.{KeptPlans}

-- a program in normal form, with its groups
abbrev pub program_in : Kept → Program
program_in kept = record { funs = norm_in kept; groups = kept.groups.list }

-- a function's plan, over no blocks
abbrev pub function_of : FunctionPlan → t.Body
function_of b = record { plan = plan_of b.plan; args = b.args; result = b.result }

-- the same at a budget, where its calls may take signatures of the blocks of a table
abbrev pub over_of : List (List Usage) → ℕ → FunctionPlan → t.Body
over_of table budget b = record { plan = filled (uses_of table) budget (plan_of b.plan); args = b.args; result = b.result }

abbrev pub body_of : Body → t.Body
body_of b = record { plan = filled (uses_of (table_of b.uses.now)) b.budget (plan_of b.plan.now); args = b.args; result = b.result }

-- it is what a function's body is over no blocks, whatever the program's groups
pub record IsBody (G : Given) (g : Option NormFun) (b : FunctionPlan) : Type 0 where
  pub is : (P : Program) → P.funs ≡ G.funs → function_of b ≡ j.body_of P G.group [] G.top g

pub record AreBodies (G : Given) (fs : List ℕ) (bs : List FunctionPlan) : Type 0 where
  pub are : (P : Program) → P.funs ≡ G.funs → map function_of bs ≡ map (λ f. j.body_of P G.group [] G.top (slice_get G.funs f)) fs

-- the functions of a group at a budget, over blocks
abbrev pub group_bodies : Program → ℕ → List Block → ℕ → List t.Body
group_bodies P group blocks budget = map (λ f. j.body_of P (members P group) blocks budget (slice_get P.funs f)) (members P group)

-- the contexts and types of their walks have at most 2000 indices
abbrev pub GroupWithin : Program → ℕ → ℕ → Type 0
GroupWithin P group budget = All (λ f. FunctionWithin 2000 (slice_get P.funs f) budget) (members P group)

-- They are those of their group at their budget, and their walks are small enough.
pub record ArePlansIn (P : Program) (made : GroupPlans) : Type 0 where
  pub functions : map function_of made.functions.items ≡ group_bodies P made.group [] made.budget
  pub within : GroupWithin P made.group made.budget

-- the same of this group at this budget
pub record ArePlansOf (P : Program) (group budget : ℕ) (made : GroupPlans) : Type 0 where
  pub group_is : made.group ≡ group
  pub budget_is : made.budget ≡ budget
  pub are : ArePlansIn P made

-- kept plans are all those of their groups at their budgets
abbrev pub AreKept : Program → KeptPlans → Type 0
AreKept P kept = All (ArePlansIn P) kept.made.items
