-- Jobs of small programs, worked out by hand.
use Rattle.std.specs.Prelude.{◌≡◌, ℕ, pos, List, [], ◌∷◌, Option, None, Some}
use Rattle.raml_syntax.specs.Tree.{Integer, OptionOf}
use Rattle.normal_spec.specs.Norm as n
use Rattle.normal_spec.specs.Norm.{NormFun}
use Rattle.cost_free.specs.declared.task.Meter.TheVariants.{Ticks, Cells, Work}
use Rattle.cost_free.specs.Task.{Kind, Free, With}
use Rattle.annot_types.specs.Certificate.{Block}
use Rattle.annot_types.specs.Example.{program, three_ticks, constant, append, one_left, length_left, no_ticks, cells}
use Rattle.annot_types.specs.SystemExample.{spin, spin_free}
use Rattle.annot_types.specs.SystemExample as e
use Rattle.rules_spec.specs.Kinds.{amounts}
use Rattle.rules_spec.specs.Faults.{Fault, Fails, Leaves, first_fault}
use Rattle.rules_spec.specs.Tasks.{Job, unknowns, given_conditions}
use Rattle.rules_spec.specs.Solving.{system_of, amount}
use Rattle.rules_spec.specs.Jobs.{job_of}

-- a task of the program's only group, at degree 1 and scale 1
abbrev job : NormFun → List Block → Kind → Job
job g earlier kind = job_of (program g) 1 earlier (record { group = 0; kind = kind }) 1

-- its system is that of the rules
abbrev IsSystem : NormFun → List Block → Kind → Type 0
IsSystem g earlier kind = system_of (job g earlier kind) (e.system_of g earlier kind).weights ≡ e.system_of g earlier kind

-- fun get (x : int option) : int = match x with none -> 0 | some(y) -> tick 2 in y
abbrev get : NormFun
get = record {
  params = (1, OptionOf Integer) ∷ [];
  result = Integer;
  body = n.CaseOption 2 1 (n.Number 1 (pos 0)) 2 (n.Tick 2 2 (n.Var 0 2));
}

-- the first fault of append's cells, where the unknowns are these numbers
abbrev fault : List ℕ → Option Fault
fault x = first_fault (given_conditions (amounts 1) (amount x) (job append (one_left ∷ length_left ∷ []) (With Cells)))

pub record Examples : Type 0 where
  pub three_free : IsSystem three_ticks [] (Free 0 0 0)
  pub three_ticks : IsSystem three_ticks (constant ∷ []) (With Ticks)
  pub append_length : IsSystem append (one_left ∷ []) (Free 1 0 1)
  pub append_work : IsSystem append (one_left ∷ length_left ∷ no_ticks ∷ cells ((2, pos 1) ∷ []) ∷ []) (With Work)
  pub spin_ticks : IsSystem spin (spin_free ∷ []) (With Ticks)
  pub get_ticks : IsSystem get [] (With Ticks)
  pub get_work : IsSystem get [] (With Work)
  -- a cell for each element of the first list: five numbers of the signature, two of the bound call's result, and two of the multiples
  pub append_cells : unknowns (job append (one_left ∷ length_left ∷ []) (With Cells)) ≡ 9
  pub met : fault (0 ∷ 0 ∷ 1 ∷ 0 ∷ 0 ∷ 1 ∷ 0 ∷ 1 ∷ 0 ∷ []) ≡ None
  -- nothing pays for the call's own cells
  pub fails : fault (0 ∷ 0 ∷ 0 ∷ 0 ∷ 0 ∷ 1 ∷ 0 ∷ 1 ∷ 0 ∷ []) ≡ Some (Fails (0 ∷ 1 ∷ 0 ∷ []) 0)
  pub leaves : fault (0 ∷ 0 ∷ 170141183460469231731687303715884105728 ∷ 0 ∷ 0 ∷ 1 ∷ 0 ∷ 1 ∷ 0 ∷ []) ≡ Some (Leaves (0 ∷ 1 ∷ 0 ∷ []) 0)
