-- Bounds of a call at its arguments, rounded down.
use Rattle.std.specs.Prelude.{◌≡◌, ◌≤◌, ◌<◌, ℕ, ◌*◌, ◌/◌, ◌^◌, List, Option, Some, None, IfSome}
use Rattle.raml_syntax.specs.Tree.{Function, Prog}
use Rattle.raml_syntax.specs.Value.{Value}
use Rattle.raml_syntax.specs.Eval.{run_of}
use Rattle.base_poly.specs.Poly.{Term}
use Rattle.poly_point.specs.Point.{worth}
use Rattle.stack_compile.specs.Laws.{at, IsGoing}
use Rattle.cost_free.specs.declared.task.Meter.{Meter}
use Rattle.cost_free.specs.declared.task.Meter.TheVariants.{Ticks, Cells, Work}
use Rattle.annot_types.specs.Program.{Program}
use Rattle.annot_types.specs.Certificate.{Certificate}
use Rattle.annot_types.specs.Held.{Claim, Bound}
use Rattle.rules_soundness_laws.specs.Enough.{cost}
use Rattle.analysis_report.specs.Limits.{Asks}
use Rattle.analysis_report.specs.Lines.{Claims}

-- for each meter the bound at the arguments, or none where there is no bound
abbrev pub Floors : Type 0
Floors = Meter → Option ℕ

-- The total of a polynomial fits 128 bits, and over the denominator this is its whole part; any other claim has none.
abbrev pub FloorOf : Claim → List Value → Option ℕ → Type 0
FloorOf (Bound den terms) args floor = (worth terms args < 2 ^ 128) × (floor ≡ Some (worth terms args / den))
FloorOf claim args floor = floor ≡ None

-- the same of what a certificate claims of a function and a meter
pub record IsFloor (N : Program) (c : Certificate) (f : ℕ) (args : List Value) (meter : Meter) (floor : Option ℕ) : Type 0 where
  pub claim : Claim
  pub claims : Claims N c f meter claim
  pub is : FloorOf claim args floor

-- the order in which bounds are worked out
abbrev pub rank : Meter → ℕ
rank Ticks = 0
rank Cells = 1
rank Work = 2

-- The total of the bound on this meter does not fit, and those on the meters before it do.
pub record Leaves (N : Program) (c : Certificate) (f : ℕ) (args : List Value) (meter : Meter) : Type 0 where
  pub den : ℕ
  pub terms : List Term
  pub claims : Claims N c f meter (Bound den terms)
  pub leaves : 2 ^ 128 ≤ worth terms args
  pub before : (other : Meter) → rank other < rank meter → (floor : Option ℕ) × IsFloor N c f args other floor

-- What these bounds are for, at the arguments.
pub record FloorsHold (P : Prog) (f : ℕ) (fun : Function) (args : List Value) (floors : Floors) : Type 0 where
  -- at every limit the run costs no more, whether it has a value or is cut
  pub runs : (meter : Meter) → IfSome (floors meter) (λ n. (limit : ℕ) → cost meter (run_of P fun args limit) ≤ n)
  -- the machine never has more ticks or cells
  pub ticks : IfSome (floors Ticks) (λ n. (m : ℕ) → (at P f args m).ticks ≤ n)
  pub cells : IfSome (floors Cells) (λ n. (m : ℕ) → (at P f args m).cells ≤ n)
  -- where it may take at least the bound of cells it never asks for one too many
  pub never_full : IfSome (floors Cells) (λ n. (limit m : ℕ) → n ≤ limit → Asks P limit (at P f args m) → ⊥)
  -- after four times the bound of work it goes on no more
  pub never_stopped : IfSome (floors Work) (λ n. (m : ℕ) → 4 * n ≤ m → IsGoing (at P f args m).at → ⊥)
