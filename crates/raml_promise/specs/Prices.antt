-- Calls under tables of prices. What a function costs under prices is told of the program that was read; it is
-- analysed, and run, as the program in which the prices are written out as ticks.
use Rattle.std.specs.Prelude.{◌≡◌, ◌≤◌, ◌*◌, ℕ, List, [], Some, slice_get}
use Rattle.raml_syntax.specs.Tree.{Text, Function, Prog}
use Rattle.raml_syntax.specs.Value.{Value, HaveTypes}
use Rattle.raml_syntax.specs.Types.{types_of}
use Rattle.base_poly.specs.Poly.{Term}
use Rattle.poly_point.specs.Point.{worth}
use Rattle.stack_compile.specs.Machine.{State, Halted}
use Rattle.stack_compile.specs.Laws.{at}
use Rattle.cost_free.specs.declared.task.Meter.TheVariants.{Ticks}
use Rattle.annot_types.specs.Program.{Program}
use Rattle.annot_types.specs.Certificate.{Certificate}
use Rattle.annot_types.specs.Held.{Claim, Bound, NoBound, CallsUnbounded}
use Rattle.price_file.specs.Construct.{Prices}
use Rattle.price_file.specs.Priced.{run_of}
use Rattle.price_file.specs.Applied.{applied_function, applied_program}
use Rattle.price_file.specs.Spelling.{Spells, FirstFault, prices_in}
use Rattle.analysis_report.specs.Lines.{Claims, AreMeterLines}
use Rattle.refusals.specs.Ending.{Ending, BadPrices}
use Rattle.refusals.specs.Line.{no_names}
use Rattle.raml_promise.specs.Outside.{Side, Also, Store}
use Rattle.raml_promise.specs.Steps.{Answer, Step, OfFile}
use Rattle.raml_promise.specs.Call.{Placed, Limits, Runs}
use Rattle.refusal_text.specs.declared.plain.Which.TheVariants as w

-- Why bytes are no table of prices: their first fault.
abbrev pub PricesRefuse : List ℕ → Ending → Type 0
PricesRefuse bytes (BadPrices fault) = FirstFault bytes fault
PricesRefuse bytes _ = ⊥

-- A file is a table of prices; a construct that it does not list costs nothing.
abbrev pub OfPrices : Side → Store → Text → (Prices → Answer → Type 0) → Answer → Type 0
OfPrices side store file Rest =
    OfFile side store w.Prices file (λ bytes. Step no_names (PricesRefuse bytes) (Spells bytes) (λ table. Rest (prices_in table)))

-- On all arguments of the function's types and at every limit, the polynomial over this denominator is at least the
-- ticks of the run under the prices, whether it has a value or is cut.
abbrev pub BoundsPriced : Prices → Prog → Function → ℕ → List Term → Type 0
BoundsPriced prices P g den terms =
    (args : List Value) (limit : ℕ) → HaveTypes args (types_of g) → den * (run_of prices P g args limit).ticks ≤ worth terms args

abbrev pub IsTrueUnder : Prices → Prog → ℕ → Claim → Type 0
IsTrueUnder prices P f (Bound den terms) = (g : Function) → slice_get P f ≡ Some g → BoundsPriced prices P g den terms
IsTrueUnder prices P f NoBound = Unit {0}
IsTrueUnder prices P f (CallsUnbounded callee) = Unit {0}

-- The lines of ticks of the program in which the prices are written out; and what they say is true of the ticks of the
-- program under the prices.
pub record ArePricedLines (prices : Prices) (P : Prog) (N : Program) (c : Certificate) (text : Text) : Type 0 where
  pub lines : AreMeterLines (applied_program prices P) N c Ticks text
  pub hold : (f : ℕ) (claim : Claim) → Claims N c f Ticks claim → IsTrueUnder prices P f claim

-- At some limit, evaluation under the prices gives the value with the machine's ticks and cells.
pub record GivesUnder (prices : Prices) (P : Prog) (g : Function) (args : List Value) (v : Value) (s : State) : Type 0 where
  pub limit : ℕ
  pub value : (run_of prices P g args limit).out ≡ Some v
  pub ticks : s.ticks ≡ (run_of prices P g args limit).ticks
  pub cells : s.cells ≡ (run_of prices P g args limit).cells

-- A run of the program in which the prices are written out; and where the machine halts, it has the value that the
-- program has under the prices, with its ticks and cells.
pub record Spends (side : Side) (prices : Prices) (P : Prog) (f : Placed) (args : List Value) (limits : Limits) (a : Answer) : Type 0 where
  pub runs : Runs side (applied_program prices P) (f.0, applied_function prices f.1) args limits [] [] a
  pub costs : Also side ((v : Value) (m : ℕ) → (at (applied_program prices P) f.0 args m).at ≡ Halted v →
      GivesUnder prices P f.1 args v (at (applied_program prices P) f.0 args m))
