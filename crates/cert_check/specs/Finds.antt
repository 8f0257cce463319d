-- The first fault of a certificate.
use Rattle.std.specs.Prelude.{◌≡◌, ◌⊎◌, ◌≤◌, ◌<ℤ◌, ℕ, ◌+◌, pos, cond, nat_eq, ◌&&◌, List, [], ◌∷◌, ◌++◌}
use Rattle.std.specs.Prelude.{map, length, slice_get, slice_index_or, Option, None, Some}
use Rattle.std.specs.Option.{option_map}
use Rattle.std.specs.List.{All, list_any}
use Rattle.base_poly.specs.Plain.{Plain, alike}
use Rattle.base_poly.specs.Indices.{index_list}
use Rattle.index_shift.specs.Potential.{Annotation}
use Rattle.normal_spec.specs.Norm.{NormFun}
use Rattle.cost_free.specs.Target.{Target, targets}
use Rattle.cost_free.specs.declared.task.Meter.TheVariants.{Ticks, Cells, Work}
use Rattle.cost_free.specs.Task.{Task, Kind, Free, With}
use Rattle.cost_free.specs.Refused.{Plan, has_more, IsRefused}
use Rattle.annot_types.specs.Program.{Program, members, results, next_task, blocker_of}
use Rattle.annot_types.specs.Certificate.{annotation, Rise, Sig, Hint, Body, Solved, Refuted, Calls, Block, Certificate, has_work, outcome}
use Rattle.annot_types.specs.Signature.{sig_among}
use Rattle.annot_types.specs.Holds.{budget_of, ReachesTarget}
use Rattle.annot_types.specs.Held.{SigsRise, AllHintsRise, NamesBlocker, scale_of, scale_for}
use Rattle.rules_spec.specs.Numbers as n
use Rattle.rules_spec.specs.Kinds.{Amount, amounts}
use Rattle.rules_spec.specs.Tasks.{Job, of_bodies}
use Rattle.rules_spec.specs.Tasks as t
use Rattle.rules_spec.specs.Jobs.{job_of, target_place}
use Rattle.rules_spec.specs.Asked.{Ask, asked}
use Rattle.rules_spec.specs.Stand.{Within}
use Rattle.rules_spec.specs.Shape.{FitAsks, amounts_at, hints_at}
use Rattle.rules_spec.specs.Faults as f
use Rattle.rules_spec.specs.Faults.{first_fault}
use Rattle.rules_plan.specs.Within.{FunctionWithin}
use Rattle.cert_check.specs.Fault.{Fault, Shape, Fails, Leaves, TooLarge, Unless}

-- The degree is from 1 to 4, and the scales that are there are positive.
pub record HeadFits (c : Certificate) : Type 0 where
  pub least : 1 ≤ c.degree
  pub most : c.degree ≤ 4
  pub ticks : pos 0 <ℤ scale_of c Ticks
  pub cells : pos 0 <ℤ scale_of c Cells
  pub work : pos 0 <ℤ scale_of c Work

-- Each function of the group has a signature, whose positions are those of its arguments and its result.
abbrev pub SigsFit : List t.Body → List Sig → Type 0
SigsFit [] [] = Unit {0}
SigsFit (b ∷ bs) (s ∷ ss) = Within b.args s.args × Within b.result s.result × SigsFit bs ss
SigsFit _ _ = ⊥

-- what the walks through the bodies ask for
abbrev pub asks_by : List t.Body → List (List Ask)
asks_by bs = map (λ (b : t.Body). asked b.plan) bs

abbrev pub AllFit : List (List Ask) → List (List Hint) → Type 0
AllFit [] [] = Unit {0}
AllFit (asks ∷ rest) (hs ∷ hss) = FitAsks asks hs × AllFit rest hss
AllFit _ _ = ⊥

-- Each has hints, those that a walk through its body asks for.
abbrev pub HintsFit : List t.Body → List (List Hint) → Type 0
HintsFit bs hss = AllFit (asks_by bs) hss

-- signatures and hints as they are walked
abbrev pub sides_at : List t.Body → List Sig → List (n.Sides Amount)
sides_at (b ∷ bs) (s ∷ ss) = record { args = amounts_at b.args s.args; result = amounts_at b.result s.result } ∷ sides_at bs ss
sides_at _ _ = []

abbrev pub hints_by : List (List Ask) → List (List Hint) → List (List (n.Hint Amount))
hints_by (asks ∷ rest) (hs ∷ hss) = hints_at asks hs ∷ hints_by rest hss
hints_by _ _ = []

abbrev pub all_hints_at : List t.Body → List (List Hint) → List (List (n.Hint Amount))
all_hints_at bs hss = hints_by (asks_by bs) hss

-- of a condition of the block with this number
abbrev pub at_block : ℕ → f.Fault → Fault
at_block number (f.Leaves path index) = Leaves number path index
at_block number (f.Fails path index) = Fails number path index

-- the conditions of the bodies
abbrev pub job_conditions : Job → List Sig → List (List Hint) → List (n.Condition Amount)
job_conditions j sigs hints = of_bodies (amounts 1) j (sides_at j.bodies sigs) 0 j.bodies (all_hints_at j.bodies hints)

-- the first of these that is not met, or whose totals leave 127 bits
abbrev pub job_fault : Job → List Sig → List (List Hint) → Option f.Fault
job_fault j sigs hints = first_fault (job_conditions j sigs hints)

-- The first position, from this one on, at which the target has its tuple and the annotation has no number; 0 where there is none.
abbrev pub missing_from : ℕ → Annotation → Target → List (List Plain) → ℕ
missing_from k q target [] = 0
missing_from k q target (t ∷ ts) = cond (list_any (alike t) target && nat_eq (q k) 0) k (missing_from (k + 1) q target ts)

abbrev pub missing_in : ℕ → ℕ → ℕ → Option NormFun → Option Sig → ℕ
missing_in d budget number (Some g) (Some s) =
    missing_from 0 (annotation s.result) (slice_index_or (targets g.result d) number []) (index_list (g.result ∷ []) budget)
missing_in d budget number _ _ = 0

-- the first of these functions whose result has more than 2000 indices: its first target at the greatest budget
abbrev pub large_in : Plan → ℕ → List ℕ → Option Task
large_in plan group [] = None
large_in plan group (f ∷ fs) =
    cond (has_more 2000 plan.degree (slice_get plan.results f))
    (Some (record { group = group; kind = Free plan.degree f 0 })) (large_in plan group fs)

abbrev pub or_task : Option Task → Option Task → Option Task
or_task None later = later
or_task (Some task) later = Some task

-- the first group by group
abbrev pub large_from : Plan → ℕ → List (List ℕ) → Option Task
large_from plan group [] = None
large_from plan group (fs ∷ rest) = or_task (large_in plan group fs) (large_from plan (group + 1) rest)

module _ (P : Program) (c : Certificate) where
  abbrev pub schedule : Plan
  schedule = record { results = results P; groups = P.groups; degree = c.degree; work = has_work c }

  -- The schedule goes on after these blocks: its next task is not the first of a group that has a function whose result
  -- has more than 2000 indices.
  abbrev pub GoesOn : List Block → Type 0
  GoesOn earlier = IsRefused 2000 schedule (map outcome earlier) → ⊥

  -- Where it does not, the task that is told is of the first function, group by group, whose result has more.
  abbrev pub refusal : Option Fault
  refusal = option_map TooLarge (large_from schedule 0 P.groups)

  -- the task of the schedule after these blocks
  abbrev pub next_after : List Block → Option Task
  next_after earlier = next_task P c.degree (has_work c) (map outcome earlier)

  -- The block is that of the schedule, and it is not tried exactly where it waits for a function, which it names.
  pub record IsScheduled (earlier : List Block) (block : Block) : Type 0 where
    pub task : next_after earlier ≡ Some block.task
    pub waits : NamesBlocker (blocker_of P block.task (map outcome earlier)) block.body

  -- No context or type of the walks through the group's bodies has more than 2000 indices at the block's budget.
  abbrev pub AreWithin : Task → Type 0
  AreWithin task = All (λ f. FunctionWithin 2000 (slice_get P.funs f) (budget_of c.degree task.kind)) (members P task.group)

  abbrev pub job : List Block → Task → Job
  job earlier task = job_of P c.degree earlier task (scale_for c task.kind)

  -- Signatures and hints are as many as there are functions and as the walks ask for, of their kinds and in their
  -- ranges; positions and numbers of blocks ascend, and all other numbers are positive.
  pub record IsShapely (earlier : List Block) (task : Task) (sigs : List Sig) (hints : List (List Hint)) : Type 0 where
    pub sigs_fit : SigsFit (job earlier task).bodies sigs
    pub sigs_rise : SigsRise sigs
    pub hints_fit : HintsFit (job earlier task).bodies hints
    pub hints_rise : AllHintsRise hints

  abbrev pub block_of : Task → Body → Block
  block_of task body = record { task = task; body = body }

  -- Where the target is not reached: at its function, and at the first of its positions at which the function's result has no number.
  abbrev pub missed_at : ℕ → List ℕ → List Sig → Kind → Fault
  missed_at number group sigs (Free budget f target) = Fails number (target_place group (Free budget f target) ∷ [])
      (missing_in c.degree budget target (slice_get P.funs f) (sig_among group sigs f))
  missed_at number group sigs (With meter) = Fails number [] 0

  -- what is found in the rules, which are tried last
  abbrev pub RulesFind : List Block → Task → List Sig → List (List Hint) → Option Fault → Type 0
  RulesFind earlier task sigs hints found = found ≡ option_map (at_block (length earlier)) (job_fault (job earlier task) sigs hints)

  -- in the target, and then in the rules
  abbrev pub TargetFinds : List Block → Task → List Sig → List (List Hint) → Option Fault → Type 0
  TargetFinds earlier task sigs hints found =
      Unless (ReachesTarget P c.degree (block_of task (Solved sigs hints)) 1 task.kind)
      (Some (missed_at (length earlier) (members P task.group) sigs task.kind)) found
      (RulesFind earlier task sigs hints found)

  -- in the shape first
  abbrev pub ShapeFinds : List Block → Task → List Sig → List (List Hint) → Option Fault → Type 0
  ShapeFinds earlier task sigs hints found =
      Unless (IsShapely earlier task sigs hints) (Some (Shape (length earlier))) found (TargetFinds earlier task sigs hints found)

  -- what is found in a block of the schedule
  abbrev pub BodyFinds : List Block → Task → Body → Option Fault → Type 0
  BodyFinds earlier task (Solved sigs hints) found =
      Unless (AreWithin task) (Some (TooLarge task)) found
      (ShapeFinds earlier task sigs hints found)
  BodyFinds earlier task (Refuted farkas) found = Unless (Rise farkas) (Some (Shape (length earlier))) found (found ≡ None)
  BodyFinds earlier task (Calls fun) found = found ≡ None

  -- what is found in the block after these, where the schedule goes on
  abbrev pub ScheduledFinds : List Block → Block → Option Fault → Type 0
  ScheduledFinds earlier block found =
      Unless (IsScheduled earlier block) (Some (Shape (length earlier))) found (BodyFinds earlier block.task block.body found)

  -- what is found in it
  abbrev pub BlockFinds : List Block → Block → Option Fault → Type 0
  BlockFinds earlier block found = Unless (GoesOn earlier) refusal found (ScheduledFinds earlier block found)

  -- what is found at the end, where the schedule has to have ended
  abbrev pub EndFinds : List Block → Option Fault → Type 0
  EndFinds earlier found =
      Unless (GoesOn earlier) refusal found
      (Unless (next_after earlier ≡ None) (Some (Shape (length earlier))) found
      (found ≡ None))

  -- in these blocks after the earlier ones, and at the end
  abbrev pub BlocksFind : List Block → List Block → Option Fault → Type 0
  BlocksFind earlier [] found = EndFinds earlier found
  BlocksFind earlier (b ∷ bs) found =
      (BlockFinds earlier b None × BlocksFind (earlier ++ b ∷ []) bs found)
      ⊎ ((fault : Fault) × BlockFinds earlier b (Some fault) × (found ≡ Some fault))

  -- The first fault of the certificate; None where there is none.
  abbrev pub FirstFault : Option Fault → Type 0
  FirstFault found = Unless (HeadFits c) (Some (Shape 0)) found (BlocksFind [] c.blocks found)
