-- Bounds on what functions cost.
use Rattle.std.specs.Prelude.{◌≤◌, ◌<◌, ℕ, ◌*◌, ◌/◌, List}
use Rattle.raml_syntax.specs.Tree.{Function, Prog}
use Rattle.raml_syntax.specs.Value.{Value, HaveTypes}
use Rattle.raml_syntax.specs.Eval.{run_of}
use Rattle.raml_syntax.specs.Types as source
use Rattle.base_poly.specs.Poly.{Term}
use Rattle.poly_point.specs.Point.{worth}
use Rattle.normal_spec.specs.Norm.{NormFun, NormProg}
use Rattle.normal_spec.specs.Run.{run_norm}
use Rattle.normal_spec.specs.Uses.{types_of}
use Rattle.stack_compile.specs.Machine.{State}
use Rattle.stack_compile.specs.Laws.{at, IsGoing}
use Rattle.cost_free.specs.declared.task.Meter.{Meter}
use Rattle.cost_free.specs.declared.task.Meter.TheVariants.{Ticks, Cells, Work}
use Rattle.rules_soundness_laws.specs.Enough.{cost}

-- On all arguments of the function's types and at every limit, the polynomial over this denominator is at least what
-- the run of the normal form costs, whether it has a value or is cut.
abbrev pub BoundsNormal : NormProg → NormFun → Meter → ℕ → List Term → Type 0
BoundsNormal N g meter den terms =
    (args : List Value) (limit : ℕ) → HaveTypes args (types_of g) → den * cost meter (run_norm N g args limit) ≤ worth terms args

-- What a bound of so much over a denominator says of the machine after m instructions: its ticks are no more, and its
-- cells are no more. It has no meter of work; but it goes on only where it has made fewer instructions than four times
-- the whole part of a bound of work.
abbrev pub BoundsState : Meter → ℕ → ℕ → ℕ → State → Type 0
BoundsState Ticks den most m s = den * s.ticks ≤ most
BoundsState Cells den most m s = den * s.cells ≤ most
BoundsState Work den most m s = IsGoing s.at → m < 4 * (most / den)

-- On all arguments of the types of the function at this place, the polynomial over this denominator is at least what it
-- costs on the meter: at every limit, whether the run has a value or is cut, and after every number of instructions of
-- the machine, whether it ever halts or not.
pub record Bounds (P : Prog) (f : ℕ) (fun : Function) (meter : Meter) (den : ℕ) (terms : List Term) : Type 0 where
  pub runs : (args : List Value) (limit : ℕ) → HaveTypes args (source.types_of fun) →
      den * cost meter (run_of P fun args limit) ≤ worth terms args
  pub machine : (args : List Value) (m : ℕ) → HaveTypes args (source.types_of fun) →
      BoundsState meter den (worth terms args) m (at P f args m)
