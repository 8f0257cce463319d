-- Limits that suffice.
use Rattle.std.specs.Prelude.{◌≡◌, ◌≤◌, ◌<◌, ℕ, ◌*◌, ◌/◌, List, slice_get, Some}
use Rattle.raml_syntax.specs.Tree.{Function, Prog}
use Rattle.raml_syntax.specs.Value.{Value, HaveTypes}
use Rattle.raml_syntax.specs.Types.{types_of}
use Rattle.base_poly.specs.Poly.{Term}
use Rattle.poly_point.specs.Point.{worth}
use Rattle.stack_compile.specs.Code.{bodies_of}
use Rattle.stack_compile.specs.Machine.{State}
use Rattle.stack_compile.specs.Laws.{at, IsGoing}
use Rattle.metered_vm.specs.Moving.{TakesCell}
use Rattle.metered_vm.specs.Seen.{Seen, Kept, program_in, fun_in, args_in, limit_in}
use Rattle.metered_vm.specs.Ending.{next_of, HasStopped, IsFull}
use Rattle.cost_free.specs.declared.task.Meter.TheVariants.{Cells, Work}
use Rattle.rules_soundness_laws.specs.Bounds.{Bounds}

-- the machine goes on, so many cells are taken, and the next instruction takes one more
pub record Asks (P : Prog) (limit : ℕ) (s : State) : Type 0 where
  pub going : IsGoing s.at
  pub all : s.cells ≡ limit
  pub takes : TakesCell (next_of (bodies_of P) s.at)

-- With at least the whole part of a bound of cells as limit, no state of the machine asks for a cell where all are taken.
abbrev pub NeverAsks : Type 0
NeverAsks =
    (P : Prog) (f : ℕ) (fun : Function) (den : ℕ) (terms : List Term) → 0 < den → Bounds P f fun Cells den terms →
    (args : List Value) → HaveTypes args (types_of fun) → (limit : ℕ) → worth terms args / den ≤ limit →
    (m : ℕ) → Asks P limit (at P f args m) → ⊥

-- So a machine that runs with such a limit never ends for want of a cell, after however many steps.
abbrev pub NeverFull : Type 0
NeverFull =
    (vm : Seen) → Kept vm → (fun : Function) → slice_get (program_in vm) (fun_in vm) ≡ Some fun →
    (den : ℕ) (terms : List Term) → 0 < den → Bounds (program_in vm) (fun_in vm) fun Cells den terms →
    worth terms (args_in vm) / den ≤ limit_in vm →
    (steps : ℕ) → IsFull steps vm → ⊥

-- With at least four times the whole part of a bound of work as steps, it is never stopped; so it halts, or ends for want of a cell.
abbrev pub NeverStopped : Type 0
NeverStopped =
    (vm : Seen) → Kept vm → (fun : Function) → slice_get (program_in vm) (fun_in vm) ≡ Some fun →
    (den : ℕ) (terms : List Term) → Bounds (program_in vm) (fun_in vm) fun Work den terms →
    (steps : ℕ) → 4 * (worth terms (args_in vm) / den) ≤ steps → HasStopped steps vm → ⊥
