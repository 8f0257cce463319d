-- Plans of a form at the budgets that are reached.
use Rattle.std.specs.Prelude.{◌≡◌, ℕ, List, [], map}
use Rattle.std.specs.Global.{Global}
use Rattle.std.specs.declared.boxed.Box.{Box}
use Rattle.raml_syntax.specs.Tree.{Type'}
use Rattle.call_groups.specs.Read.{ids_of}
use Rattle.normal_spec.specs.Norm.{Norm, NormProg}
use Rattle.normal_spec.specs.Context.{Context}
use Rattle.normal_spec.specs.Read.{funs_of}
use Rattle.annot_types.specs.Program.{Program}
use Rattle.rules_spec.specs.Plan as p
use Rattle.rules_spec.specs.Planned.{plan}
use Rattle.rules_walk.specs.Read.{plan_of}
use Rattle.rules_walk.specs.declared.plan.Plan.{Plan}
use Rattle.rules_plan.specs.Down.{reached}
use Rattle.rules_plan.specs.Change.{step_at}
use Rattle.rules_plan.specs.declared.change.Move.{Move}
use Rattle.rules_plan.specs.declared.env.Env.{Env}
use Rattle.rules_plan.specs.declared.env.Reach.{Reach}
use Rattle.rules_plan.specs.declared.env.Reach.TheVariants.{Down}

-- what plans are made over: functions, a group of them, the greatest budget, and for which budgets they are made
pub record Given : Type 0 where
  pub funs : NormProg
  pub group : List ℕ
  pub top : ℕ
  pub reach : Reach

abbrev pub given_of : Env → Given
given_of env = record { funs = funs_of env.results.now env.functions.now; group = ids_of env.group.now; top = env.top; reach = env.reach }

-- the same for all budgets
abbrev pub all_down : Given → Given
all_down G = record { funs = G.funs; group = G.group; top = G.top; reach = Down }

abbrev pub made_of : List (Box Plan Global) → List p.Plan
made_of made = map (λ (e : Box Plan Global). plan_of e.value) made

-- they are what there is at the budgets that are reached, whatever the program's groups
pub record AreReached (G : Given) (F : Program → ℕ → p.Plan) (made : List p.Plan) : Type 0 where
  pub are : (P : Program) → P.funs ≡ G.funs → made ≡ reached G.reach (F P) G.top

-- the plan of a form, over no blocks
abbrev pub planned : Given → Norm → Context → Type' → Program → ℕ → p.Plan
planned G e C T P = plan P G.group [] G.top e C T

abbrev pub ArePlans : Given → Norm → Context → Type' → List p.Plan → Type 0
ArePlans G e C T made = AreReached G (planned G e C T) made

-- a branch: the map to its context, and its plans there
pub record IsBranch (G : Given) (S : ℕ → p.Step) (e : Norm) (C : Context) (T : Type') (m : Move) (made : List p.Plan) : Type 0 where
  pub step : (d : ℕ) → step_at m d ≡ S d
  pub plans : ArePlans G e C T made
