-- Programs in normal form with their groups.
use Rattle.std.specs.Prelude.{ℕ, Bool, List, [], ◌∷◌, ◌++◌, map, Option}
use Rattle.raml_syntax.specs.Tree.{Type'}
use Rattle.normal_spec.specs.Norm as n
use Rattle.normal_spec.specs.Norm.{NormFun, NormProg}
use Rattle.cost_free.specs.Task.{Task, Outcome}
use Rattle.cost_free.specs.Schedule.{next}
use Rattle.cost_free.specs.Blocked.{row, blocked}

-- the functions, and the groups of those that reach each other by calls, callees first
pub record Program : Type 0 where
  pub funs : NormProg
  pub groups : List (List ℕ)

-- the functions of the group at a place; none where there is no such group
abbrev pub members : Program → ℕ → List ℕ
members P group = row P.groups group

-- the functions that a form calls
abbrev pub called_in : n.Norm → List ℕ
called_in (n.Call k f xs) = f ∷ []
called_in (n.Let k x A a b) = called_in a ++ called_in b
called_in (n.Split k x p q a) = called_in a
called_in (n.If k x a b) = called_in a ++ called_in b
called_in (n.CaseList k x a h t b) = called_in a ++ called_in b
called_in (n.CaseTree k x a h l r b) = called_in a ++ called_in b
called_in (n.CaseOption k x a w b) = called_in a ++ called_in b
called_in (n.Tick k i a) = called_in a
called_in (n.Share k x p q a) = called_in a
called_in (n.Drop k x a) = called_in a
called_in _ = []

-- for each function those that its body calls
abbrev pub calls : Program → List (List ℕ)
calls P = map (λ (g : NormFun). called_in g.body) P.funs

abbrev pub results : Program → List Type'
results P = map (λ (g : NormFun). g.result) P.funs

-- the next task of the program's schedule
abbrev pub next_task : Program → ℕ → Bool → List Outcome → Option Task
next_task P d work done = next (results P) P.groups d work done

-- the function that a task waits for
abbrev pub blocker_of : Program → Task → List Outcome → Option ℕ
blocker_of P task done = blocked P.groups (calls P) task done
