-- What the code's tasks and the parts of its targets are as plain data.
use Rattle.std.specs.Prelude.{ℕ, List, map, drop, Vec}
use Rattle.std.specs.Global.{Global}
use Rattle.std.specs.Borrow.{Bor}
use Rattle.raml_syntax.specs.Read.{ty_of}
use Rattle.raml_syntax.specs.declared.program.FunId.{FunId}
use Rattle.base_poly.specs.Plain.{Plain}
use Rattle.base_poly.specs.Read.{plains_of, context_of}
use Rattle.base_poly.specs.declared.index.Index.{Index}
use Rattle.cost_free.specs.Target as p
use Rattle.cost_free.specs.declared.holder.Holder.{Holder}
use Rattle.cost_free.specs.Refused as s
use Rattle.cost_free.specs.Walk as w
use Rattle.cost_free.specs.declared.plan.Plan.{Plan}
use Rattle.cost_free.specs.declared.numbered.Numbered.{Numbered}
use Rattle.cost_free.specs.declared.walk.Walk.{Walk}
use Rattle.cost_free.specs.Task as t
use Rattle.cost_free.specs.declared.task.Task.{Task}
use Rattle.cost_free.specs.declared.task.Done.{Done}
use Rattle.cost_free.specs.declared.task.TaskKind.{TaskKind}
use Rattle.cost_free.specs.declared.task.TaskKind.TheVariants.{Free, With}

abbrev pub kind_of : TaskKind → t.Kind
kind_of (Free budget fun target) = t.Free budget fun.0 target
kind_of (With meter) = t.With meter

abbrev pub task_of : Task → t.Task
task_of task = record { group = task.group; kind = kind_of task.kind }

abbrev pub tasks_of : List Task → List t.Task
tasks_of tasks = map task_of tasks

abbrev pub outcome_of : Task × Done → t.Outcome
outcome_of e = (task_of e.0, e.1)

abbrev pub outcomes_of : List (Task × Done) → List t.Outcome
outcomes_of es = map outcome_of es

abbrev pub ids_of : List FunId → List ℕ
ids_of fs = map (λ (f : FunId). f.0) fs

abbrev pub lists_of : List (Vec FunId Global) → List (List ℕ)
lists_of gs = map (λ (g : Vec FunId Global). ids_of g.items) gs

abbrev pub holder_of : Holder → p.Holder
holder_of h = record { place = h.place; element = ty_of h.element.now }

abbrev pub holders_of : List Holder → List p.Holder
holders_of hs = map holder_of hs

abbrev pub sets_of : List (Vec Holder Global) → List (List p.Holder)
sets_of sets = map (λ (s : Vec Holder Global). holders_of s.items) sets

abbrev pub places_of : List Holder → List ℕ
places_of hs = map (λ (h : Holder). h.place) hs

abbrev pub pieces_of : List (Bor (List Index)) → List (List Plain)
pieces_of ps = map (λ (p : Bor (List Index)). plains_of p.now) ps

abbrev pub plan_of : Plan → s.Plan
plan_of p = record { results = context_of p.results.now; groups = lists_of p.groups.now; degree = p.degree; work = p.work }

abbrev pub numbered_of : Numbered → ℕ × List ℕ
numbered_of n = (n.fun.0, n.degrees.items)

abbrev pub all_numbered : List Numbered → List (ℕ × List ℕ)
all_numbered ns = map numbered_of ns

abbrev pub place_of : Walk → w.Place
place_of walk = record { keys = walk.solved.keys; entered = walk.entered; left = tasks_of (drop walk.place walk.tasks.items) }
