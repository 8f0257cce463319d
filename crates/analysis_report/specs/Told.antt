-- What the code tells of bounds.
use Rattle.std.specs.Prelude.{◌≡◌, ◌≤◌, ◌<◌, ◌/◌, ◌^◌, ℕ, List, Option, Some, None, slice_get}
use Rattle.raml_syntax.specs.Tree.{Function, Prog}
use Rattle.raml_syntax.specs.Types.{types_of}
use Rattle.rules_soundness_laws.specs.Bounds.{Bounds}
use Rattle.raml_syntax.specs.Value.{Value, HaveTypes}
use Rattle.base_poly.specs.Poly.{Term}
use Rattle.poly_point.specs.Point.{worth}
use Rattle.cost_free.specs.declared.task.Meter.{Meter}
use Rattle.cost_free.specs.declared.task.Meter.TheVariants.{Ticks, Cells, Work}
use Rattle.annot_types.specs.Program.{Program}
use Rattle.annot_types.specs.Certificate.{Certificate}
use Rattle.annot_types.specs.Held.{Bound}
use Rattle.analysis_report.specs.Lines.{Claims}
use Rattle.analysis_report.specs.Floors as f
use Rattle.analysis_report.specs.Floors.{IsFloor, Leaves, FloorsHold}
use Rattle.analysis_report.specs.Powers.{FirstLeaves}
use Rattle.analysis_report.specs.declared.bounds.Floors.{Floors}
use Rattle.analysis_report.specs.declared.bounds.FloorFault.{FloorFault}
use Rattle.analysis_report.specs.declared.bounds.FloorFault.TheVariants as fault
use Rattle.analysis_report.specs.declared.powers_fault.PowersFault.{PowersFault}
use Rattle.analysis_report.specs.declared.powers_fault.PowersFault.TheVariants as powers

abbrev pub floors_of : Floors → f.Floors
floors_of floors Ticks = floors.ticks
floors_of floors Cells = floors.cells
floors_of floors Work = floors.work

abbrev pub FloorsAre : Program → Certificate → ℕ → List Value → f.Floors → Type 0
FloorsAre N c fun args floors = (meter : Meter) → IsFloor N c fun args meter (floors meter)

-- the total of the bound on this meter does not fit
pub record Overflows (N : Program) (c : Certificate) (fun : ℕ) (args : List Value) (meter : Meter) : Type 0 where
  pub den : ℕ
  pub terms : List Term
  pub claims : Claims N c fun meter (Bound den terms)
  pub leaves : 2 ^ 128 ≤ worth terms args

abbrev pub FloorRefused : Program → Certificate → ℕ → List Value → Meter → FloorFault → Type 0
FloorRefused N c fun args meter (fault.Leaves other) = (other ≡ meter) × Overflows N c fun args meter
FloorRefused N c fun args meter fault.NoMemory = Unit {0}

-- of all three: the first that does not fit
abbrev pub FloorsRefused : Program → Certificate → ℕ → List Value → FloorFault → Type 0
FloorsRefused N c fun args (fault.Leaves meter) = Leaves N c fun args meter
FloorsRefused N c fun args fault.NoMemory = Unit {0}

-- the number is the whole part of a bound at the arguments
pub record IsOfBound (P : Prog) (f : ℕ) (fun : Function) (args : List Value) (meter : Meter) (n : ℕ) : Type 0 where
  pub den : ℕ
  pub terms : List Term
  pub positive : 0 < den
  pub bounds : Bounds P f fun meter den terms
  pub is : n ≡ worth terms args / den

abbrev pub IsBound : Prog → ℕ → List Value → Meter → Option ℕ → Type 0
IsBound P f args meter None = Unit {0}
IsBound P f args meter (Some n) = (fun : Function) → slice_get P f ≡ Some fun → IsOfBound P f fun args meter n

-- what all of them are good for
abbrev pub AllHold : Prog → ℕ → List Value → f.Floors → Type 0
AllHold P f args floors = (fun : Function) → slice_get P f ≡ Some fun → HaveTypes args (types_of fun) → FloorsHold P f fun args floors

-- why bounds are not written as powers
abbrev pub PowersRefused : Prog → Program → Certificate → PowersFault → Type 0
PowersRefused P N c (powers.Leaves fun meter) = FirstLeaves P N c fun.0 meter
PowersRefused P N c powers.NoMemory = Unit {0}
