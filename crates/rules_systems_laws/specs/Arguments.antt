-- Where the unknowns of a function's arguments stand, and what numbers tell of them.
use Rattle.std.specs.Prelude.{◌≡◌, ◌<◌, ℕ, ◌+◌, nat_eq, cond, List, [], ◌∷◌, slice_get, Some}
use Rattle.normal_spec.specs.Norm.{NormFun}
use Rattle.normal_spec.specs.Context.{types}
use Rattle.cost_free.specs.Task.{Task}
use Rattle.annot_types.specs.Program.{Program, members}
use Rattle.annot_types.specs.Certificate.{annotation, Sig}
use Rattle.annot_types.specs.Signature.{sig_among}
use Rattle.annot_types.specs.Holds.{budget_of}
use Rattle.annot_types.specs.Rows.{size}
use Rattle.annot_types.specs.System.{args_of, result_of}
use Rattle.rules_spec.specs.Told.{number_in}

-- the first unknown of a function's arguments, where those of the first of these functions begin with this one
abbrev pub first_from : Program → ℕ → ℕ → List ℕ → ℕ → ℕ
first_from P budget next [] f = next
first_from P budget next (g ∷ gs) f =
    cond (nat_eq f g) next
    (first_from P budget (next + (size (args_of (slice_get P.funs g)) budget + size (result_of (slice_get P.funs g)) budget)) gs f)

-- For each function of the task's group, the numbers at the unknowns of its arguments are those of its signature's annotation.
abbrev pub TellsArguments : Program → ℕ → Task → List Sig → List ℕ → Type 0
TellsArguments P d task sigs x =
    let budget = budget_of d task.kind in
    (f : ℕ) (fun : NormFun) (s : Sig) → slice_get P.funs f ≡ Some fun → sig_among (members P task.group) sigs f ≡ Some s →
    (k : ℕ) → k < size (types fun.params) budget →
    number_in x (first_from P budget 0 (members P task.group) f + k) ≡ annotation s.args k
