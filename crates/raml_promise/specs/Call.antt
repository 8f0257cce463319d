-- Calls of functions on data, and how they end on the machine.
use Rattle.std.specs.Prelude.{◌≡◌, ◌≤◌, ◌<◌, ℕ, suc, ◌*◌, ◌/◌, List, ◌++◌, cond, nat_le, Option, Some, None, Ok, Err, slice_get}
use Rattle.raml_syntax.specs.Tree.{Text, Function, Prog}
use Rattle.raml_syntax.specs.Value.{Value}
use Rattle.raml_syntax.specs.Eval.{run_of}
use Rattle.raml_syntax.specs.Types.{types_of}
use Rattle.raml_syntax.specs.Place.{place_of}
use Rattle.base_poly.specs.Poly.{Term}
use Rattle.poly_point.specs.Point.{worth}
use Rattle.stack_compile.specs.Code.{bodies_of}
use Rattle.stack_compile.specs.Machine.{Halted}
use Rattle.stack_compile.specs.Laws.{at, IsGoing, Gives}
use Rattle.metered_vm.specs.Moving.{TakesCell}
use Rattle.metered_vm.specs.Ending.{next_of}
use Rattle.value_text.specs.Reading.{Answers}
use Rattle.cost_free.specs.declared.task.Meter.{Meter}
use Rattle.cost_free.specs.declared.task.Meter.TheVariants.{Cells, Work}
use Rattle.annot_types.specs.Program.{Program}
use Rattle.annot_types.specs.Certificate.{Certificate}
use Rattle.rules_soundness_laws.specs.Bounds.{Bounds}
use Rattle.report_text.specs.Report.{value_lines, stopped_lines, full_lines}
use Rattle.analysis_report.specs.Floors.{Floors, IsFloor, Leaves, FloorsHold}
use Rattle.refusals.specs.Ending.{Ending, Done, BadData, NoFunction, Stopped, HeapFull, Overflows, AtPoint}
use Rattle.refusals.specs.Line.{no_names}
use Rattle.raml_promise.specs.Outside.{Side, Also, Store}
use Rattle.raml_promise.specs.Steps.{Answer, Report, Step, OfFile}
use Rattle.refusal_text.specs.declared.plain.Which.TheVariants as w

-- a function with its place
abbrev pub Placed : Type 0
Placed = ℕ × Function

-- this is the function of the name
pub record IsNamed (P : Prog) (name : Text) (f : Placed) : Type 0 where
  pub place : place_of name P ≡ Some f.0
  pub there : slice_get P f.0 ≡ Some f.1

-- The program has a function of the name.
abbrev pub OfFunction : Prog → Text → (Placed → Answer → Type 0) → Answer → Type 0
OfFunction P name Rest = Step no_names (λ e. (e ≡ NoFunction) × (place_of name P ≡ None)) (IsNamed P name) Rest

-- Why bytes are no arguments of a function.
abbrev pub DataRefuses : List ℕ → Function → Ending → Type 0
DataRefuses bytes fun (BadData fault) = Answers bytes (types_of fun) (Err fault)
DataRefuses bytes fun _ = ⊥

-- Bytes are arguments of the types of a function's parameters.
abbrev pub OfArguments : List ℕ → Function → (List Value → Answer → Type 0) → Answer → Type 0
OfArguments bytes fun Rest = Step no_names (DataRefuses bytes fun) (λ args. Answers bytes (types_of fun) (Ok args)) Rest

-- The function of a name, and a file of arguments for it.
abbrev pub OfCall : Side → Store → Prog → Text → Text → (Placed → List Value → Answer → Type 0) → Answer → Type 0
OfCall side store P name file Rest = OfFunction P name (λ f. OfFile side store w.Data file (λ bytes. OfArguments bytes f.1 (Rest f)))

-- how many instructions a run may make, and how many cells it may take
pub record Limits : Type 0 where
  pub steps : ℕ
  pub cells : ℕ

-- No bound of cells is at most this at the arguments.
abbrev pub NoCellsWithin : Prog → Placed → List Value → ℕ → Type 0
NoCellsWithin P f args cells =
    (den : ℕ) (terms : List Term) → 0 < den → Bounds P f.0 f.1 Cells den terms → worth terms args / den ≤ cells → ⊥

-- No bound of work is at most a quarter of this.
abbrev pub NoWorkWithin : Prog → Placed → List Value → ℕ → Type 0
NoWorkWithin P f args steps = (den : ℕ) (terms : List Term) → Bounds P f.0 f.1 Work den terms → 4 * (worth terms args / den) ≤ steps → ⊥

module _ (side : Side) (P : Prog) (f : Placed) (args : List Value) (limits : Limits) (text : Text) where
  -- The machine halts within the limits, with the value that the source's evaluation has at some depth limit, and with
  -- its ticks and cells. The text is that value and the meters.
  pub record Finishes : Type 0 where
    pub value : Value
    pub made : ℕ
    pub within : made ≤ limits.steps
    pub halted : (at P f.0 args made).at ≡ Halted value
    pub few_cells : (at P f.0 args made).cells ≤ limits.cells
    pub counted : Also side ((at P f.0 args made).made ≡ made)
    pub evaluated : Also side (Gives P f.1 args value (at P f.0 args made))
    pub printed : Also side (text ≡ value_lines value f.1.result (at P f.0 args made))

  -- The machine goes on after all the steps. So evaluation at the next limit has more than a quarter of them as work,
  -- and no bound of work has as little. The text is the meters there.
  pub record Stops : Type 0 where
    pub going : IsGoing (at P f.0 args limits.steps).at
    pub few_cells : (at P f.0 args limits.steps).cells ≤ limits.cells
    pub counted : Also side ((at P f.0 args limits.steps).made ≡ limits.steps)
    pub worked : Also side (limits.steps < 4 * (run_of P f.1 args (suc limits.steps)).work)
    pub unbounded : Also side (NoWorkWithin P f args limits.steps)
    pub printed : Also side (text ≡ stopped_lines (at P f.0 args limits.steps))

  -- After fewer instructions than the steps all cells are taken, and the next instruction takes one more. So no bound
  -- of cells is within the limit. The text is the meters there.
  pub record Fills : Type 0 where
    pub made : ℕ
    pub fewer : made < limits.steps
    pub going : IsGoing (at P f.0 args made).at
    pub all : (at P f.0 args made).cells ≡ limits.cells
    pub takes : TakesCell (next_of (bodies_of P) (at P f.0 args made).at)
    pub counted : Also side ((at P f.0 args made).made ≡ made)
    pub unbounded : Also side (NoCellsWithin P f args limits.cells)
    pub printed : Also side (text ≡ full_lines (at P f.0 args made))

-- how a run ends: the machine has halted, was stopped, or asked for one cell too many
abbrev pub Ends : Side → Prog → Placed → List Value → Limits → Text → Ending → Type 0
Ends side P f args limits text Done = Finishes side P f args limits text
Ends side P f args limits text Stopped = Stops side P f args limits text
Ends side P f args limits text HeapFull = Fills side P f args limits text
Ends side P f args limits text _ = ⊥

-- A run on the machine. Its text stands in the report between two others.
pub record Runs (side : Side) (P : Prog) (f : Placed) (args : List Value) (limits : Limits)
    (front behind : Text) (a : Answer) : Type 0 where
  pub ending : Ending
  pub text : Text
  pub ends : Ends side P f args limits text ending
  pub whole : Text
  pub is : a ≡ Report ending whole
  pub around : Also side (whole ≡ front ++ text ++ behind)

-- Why the bounds of a call are not worked out: the total of the first of them that leaves 128 bits, in the order of ticks, cells and work.
abbrev pub PointRefuses : Program → Certificate → Placed → List Value → Ending → Type 0
PointRefuses N c f args (Overflows (AtPoint meter)) = Leaves N c f.0 args meter
PointRefuses N c f args _ = ⊥

-- The bounds of a call at its arguments, rounded down.
pub record AreFloors (side : Side) (P : Prog) (N : Program) (c : Certificate) (f : Placed)
    (args : List Value) (floors : Floors) : Type 0 where
  pub are : (meter : Meter) → IsFloor N c f.0 args meter (floors meter)
  pub hold : Also side (FloorsHold P f.0 f.1 args floors)

abbrev pub OfFloors : Side → Prog → Program → Certificate → Placed → List Value → (Floors → Answer → Type 0) → Answer → Type 0
OfFloors side P N c f args Rest = Step no_names (PointRefuses N c f args) (AreFloors side P N c f args) Rest

-- the cells that a run may take where nothing is known of it, and the most that it may take by its bound
abbrev pub usual_cells : ℕ
usual_cells = 1048576

abbrev pub most_cells : ℕ
most_cells = 16777216

-- The cells that a run may take: as the words say; else the floor of the bound of cells, where that is not too large;
-- else the usual ones.
abbrev pub floor_cells : Option ℕ → ℕ
floor_cells None = usual_cells
floor_cells (Some floor) = cond (nat_le floor most_cells) floor usual_cells

abbrev pub cells_or : Option ℕ → Option ℕ → ℕ
cells_or (Some cells) floor = cells
cells_or None floor = floor_cells floor
