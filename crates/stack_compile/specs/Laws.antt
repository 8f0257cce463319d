-- What ties the machine to evaluation.
use Rattle.std.specs.Prelude.{◌≡◌, ◌≤◌, ◌<◌, ℕ, suc, List, ◌*◌, Some, slice_get}
use Rattle.std.specs.List.{All}
use Rattle.raml_syntax.specs.Tree.{Function, Prog}
use Rattle.raml_syntax.specs.Value.{Value, HaveTypes}
use Rattle.raml_syntax.specs.Eval.{Run, run_of}
use Rattle.raml_syntax.specs.Types.{types_of, Typed}
use Rattle.raml_syntax.specs.Node.{AllNodes, NumberFits}
use Rattle.stack_compile.specs.Code.{bodies_of}
use Rattle.stack_compile.specs.Machine.{Config, Going, Halted, State, after, start}
use Rattle.stack_compile.specs.Ready.{Ready}

-- the machine after m instructions of the function at a place of the program, or where it has halted sooner
abbrev pub at : Prog → ℕ → List Value → ℕ → State
at P f args m = after (bodies_of P) m (start f args)

abbrev pub IsGoing : Config → Type 0
IsGoing (Going f p st ls fs) = Unit {0}
IsGoing (Halted v) = ⊥

-- at this limit evaluation gives the value with the machine's ticks and cells, and the machine's instructions are at most 4 times its work
pub record Gives (P : Prog) (g : Function) (args : List Value) (v : Value) (s : State) : Type 0 where
  pub limit : ℕ
  pub value : (run_of P g args limit).out ≡ Some v
  pub ticks : s.ticks ≡ (run_of P g args limit).ticks
  pub cells : s.cells ≡ (run_of P g args limit).cells
  pub few : s.made ≤ 4 * (run_of P g args limit).work

-- the machine halts with the value and the costs of a run, within 4 times its work
pub record Halts (P : Prog) (f : ℕ) (args : List Value) (v : Value) (r : Run Value) : Type 0 where
  pub count : ℕ
  pub few : count ≤ 4 * r.work
  pub is : at P f args count ≡ record { at = Halted v; ticks = r.ticks; cells = r.cells; made = count }

-- the machine and the evaluation of a function on arguments
pub record Linked (P : Prog) (f : ℕ) (g : Function) (args : List Value) : Type 0 where
  -- where evaluation has a value the machine halts with it, and only there
  pub halts : (n : ℕ) (v : Value) → (run_of P g args n).out ≡ Some v → Halts P f args v (run_of P g args n)
  pub halts_only : (m : ℕ) (v : Value) → (at P f args m).at ≡ Halted v → Gives P g args v (at P f args m)
  -- after m instructions it costs no more than evaluation at every limit that is no less, whether that one has a value or is cut
  pub at_most : (m n : ℕ) → m ≤ n → ((at P f args m).ticks ≤ (run_of P g args n).ticks)
      × ((at P f args m).cells ≤ (run_of P g args n).cells)
  -- where it goes on after m instructions, 4 times the work of evaluation at the next limit is more than m
  pub goes_on : (m : ℕ) → IsGoing (at P f args m).at → m < 4 * (run_of P g args (suc m)).work
  -- no instruction ever misses what it takes
  pub ready : (m : ℕ) → Ready (bodies_of P) (at P f args m).at

-- Of each function of a typed program whose numbers fit, on arguments of its parameters' types
abbrev pub MachineIsLinked : Type 0
MachineIsLinked =
    (P : Prog) → Typed P → All (λ (g : Function). AllNodes NumberFits g.body) P →
    (f : ℕ) (g : Function) (args : List Value) → slice_get P f ≡ Some g → HaveTypes args (types_of g) → Linked P f g args
