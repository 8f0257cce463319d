-- What the code's plans, hints and signatures are as plain data.
use Rattle.std.specs.Prelude.{ℕ, zero, suc, ◌+◌, ◌*◌, Vec, nat_eq, cond, List, [], ◌∷◌, map, slice_index_or, Option, None, option_map, Bool}
use Rattle.std.specs.Prelude.{false, ◌&&◌}
use Rattle.std.specs.Option.{is_none}
use Rattle.std.specs.Global.{Global}
use Rattle.std.specs.declared.rc.Rc.{Rc}
use Rattle.std.specs.Rc.{rc_value}
use Rattle.cost_free.specs.declared.task.Meter.{Meter}
use Rattle.cost_free.specs.declared.task.Meter.TheVariants.{Ticks, Cells, Work}
use Rattle.annot_types.specs.Rules as r
use Rattle.rules_spec.specs.Plan as p
use Rattle.rules_spec.specs.Numbers as n
use Rattle.rules_spec.specs.Walk as w
use Rattle.rules_walk.specs.Steps.{step_of}
use Rattle.rules_walk.specs.declared.plan.Mode.{Mode}
use Rattle.rules_walk.specs.declared.plan.Mode.TheVariants as o
use Rattle.rules_walk.specs.declared.plan.Called.{Called}
use Rattle.rules_walk.specs.declared.plan.Plan.{Plan}
use Rattle.rules_walk.specs.declared.plan.Plan.TheOpen as f
use Rattle.rules_walk.specs.declared.plan.Plan.TheFolds.{fold-Plan}
use Rattle.rules_walk.specs.declared.hint.Hint.{Hint}
use Rattle.rules_walk.specs.declared.hint.Hint.TheVariants as h
use Rattle.rules_walk.specs.declared.known.Sides.{Sides}
use Rattle.rules_walk.specs.declared.known.Signature.{Signature}
use Rattle.rules_walk.specs.declared.known.Signed.{Signed}
use Rattle.rules_walk.specs.declared.known.Known.{Known}

abbrev pub mode_of : Mode → r.Mode
mode_of (o.With meter) = r.With meter
mode_of o.Own = r.Own
mode_of o.Past = r.Past

-- Which signatures may be taken is told beside a plan.
abbrev pub called_of : Called → p.Called
called_of c = record {
  function = c.function;
  own = c.own;
  usable = [];
  args = c.args;
  result = c.result;
  args_from = map (λ es. es.items) c.args_from.items;
  result_from = map (λ es. es.items) c.result_from.items;
}

abbrev pub plans : List p.Plan → p.Plans
plans [] = p.NoPlans
plans (e ∷ es) = p.More e (plans es)

abbrev pub plan_step : f.Plan-F p.Plan → p.Plan
plan_step (f.Ends n cells steps) = p.Ends n cells (map step_of steps.items)
plan_step (f.Pays n ticks e) = p.Pays n ticks e.value
plan_step (f.Moves n step e) = p.Moves n (step_of step) e.value
plan_step (f.Forks n step a other b) = p.Forks n (step_of step) a.value (step_of other) b.value
plan_step (f.Shares n size step e) = p.Shares n size (step_of step) e.value
plan_step (f.Calls n c) = p.Calls n (called_of c)
plan_step (f.Lets n parts firsts size e) = p.Lets n parts (plans (map rc_value firsts.items)) size e.value

abbrev pub plan_of : Plan → p.Plan
plan_of = fold-Plan p.Plan plan_step

-- plans that are shared
abbrev pub shared_of : Rc Plan Global → Rc p.Plan Global
shared_of e = record { ptr = e.ptr; value = plan_of e.value }

abbrev pub plans_of : List (Rc Plan Global) → p.Plans
plans_of es = plans (map rc_value (map shared_of es))

abbrev pub signature_of : Signature → n.Signature
signature_of s = record { budget = s.budget; args = s.args.items; result = s.result.items }

abbrev pub no_signature : n.Signature
no_signature = record { budget = 0; args = []; result = [] }

-- the first signature of the function
abbrev pub signed : ℕ → List Signed → n.Signature
signed f [] = no_signature
signed f (s ∷ ss) = cond (nat_eq f s.function) (signature_of s.signature) (signed f ss)

module _ {T : Type 0} where
  abbrev pub hint_of : Hint T → n.Hint T
  hint_of (h.Results results) = n.Results (map (λ q. q.items) results.items)
  hint_of (h.Copies copies) = n.Copies copies.items
  hint_of (h.Multiples multiples) = n.Multiples multiples.items

  abbrev pub hints_of : List (Hint T) → List (n.Hint T)
  hints_of hs = map hint_of hs

  abbrev pub sides_of : Sides T → n.Sides T
  sides_of s = record { args = s.args.items; result = s.result.items }

  abbrev pub costs_of : Known T → Meter → List (Option Signature)
  costs_of s Ticks = s.ticks.now
  costs_of s Cells = s.cells.now
  costs_of s Work = s.work.now

  abbrev pub free_of : Known T → ℕ → ℕ → n.Signature
  free_of s k f = signed f (slice_index_or (map (λ ss. ss.items) s.free.now) k [])

  abbrev pub cost_of : Known T → Meter → ℕ → Option n.Signature
  cost_of s meter f = slice_index_or (map (option_map signature_of) (costs_of s meter)) f None

  abbrev pub known_of : Known T → n.Known T
  known_of s = record { scale = s.scale; budget = s.budget; group = map sides_of s.group.now; free = free_of s; cost = cost_of s }

  -- the walk that is meant
  abbrev pub walked : n.Numbers T → Known T → p.Plan → w.Walk T
  walked A s = w.walk A (known_of s)

-- the items at a place; none where there is no such place
abbrev pub items_at : {T : Type 0} → List (Vec T Global) → ℕ → List T
items_at lists k = slice_index_or (map (λ xs. xs.items) lists) k []

module _ {T : Type 0} (A : n.Numbers T) where
  -- What is paid for nodes: the conditions, the index that comes next, and what is left of the annotation.
  abbrev pub nodes_rows : ℕ → ℕ → List ℕ → List T → List (n.Condition T)
  nodes_rows scale (suc k) path q = w.numbered path 0 ((w.at A q 0, A.number (suc k * scale)) ∷ [])
  nodes_rows scale zero path q = []

  abbrev pub nodes_left : ℕ → ℕ → List T → List T
  nodes_left scale (suc k) q = w.at_zero (A.less (suc k * scale)) q
  nodes_left scale zero q = q

abbrev pub nodes_index : ℕ → ℕ
nodes_index (suc k) = 1
nodes_index zero = 0

-- of a number, what a meter charges
abbrev pub charged : r.Mode → Meter → ℕ → ℕ
charged (r.With Ticks) Ticks n = n
charged (r.With Cells) Cells n = n
charged (r.With Work) Work n = n
charged mode meter n = 0

-- the bound form of a Let, for each tuple from this one on
abbrev pub each_from : {T : Type 0} → n.Numbers T → Known T → p.Plans → ℕ → List p.Part →
    List (List T) → r.Mode → List ℕ → List T → List (n.Hint T) → n.Walked T
each_from A s es k parts rs mode path q hs = w.each A (known_of s) (w.walks A (known_of s) es) k parts rs q mode path hs

-- what a recursion on a plan goes down in
abbrev mutual
  pub size : p.Plan → ℕ
  size (p.Ends n cells steps) = 1
  size (p.Pays n ticks e) = 1 + size e
  size (p.Moves n step e) = 1 + size e
  size (p.Forks n step a other b) = 1 + (size a + size b)
  size (p.Shares n k step e) = 1 + size e
  size (p.Calls n c) = 1
  size (p.Lets n parts firsts k e) = 1 + (sizes firsts + size e)

  pub sizes : p.Plans → ℕ
  sizes p.NoPlans = 0
  sizes (p.More e es) = 1 + (size e + sizes es)

-- entries that are lent, as those of a signature
abbrev pub lent : {T : Type 0} → List T → List T → n.Sides T
lent args result = record { args = args; result = result }

-- no signature pays, although the mode asks for one
abbrev pub is_unpaid : {T : Type 0} → n.Known T → r.Mode → p.Called → Bool
is_unpaid G (r.With meter) c = is_none c.own && is_none (G.cost meter c.function)
is_unpaid G mode c = false

-- the signature at a place of a group; without entries where there is no such place
abbrev pub sides_at : {T : Type 0} → List (n.Sides T) → ℕ → n.Sides T
sides_at group k = slice_index_or group k (record { args = []; result = [] })
