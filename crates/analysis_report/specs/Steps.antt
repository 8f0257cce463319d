-- What the private steps of the lines make.
use Rattle.std.specs.Prelude.{◌≡◌, ◌<◌, ◌<ℤ◌, ℕ, pos, ◌++◌, unsigned_abs, Option, Some, None, slice_get}
use Rattle.std.specs.List.{Contains}
use Rattle.raml_syntax.specs.Tree.{Text, Function, Prog}
use Rattle.bound_compare.specs.declared.compared.Compared.{Compared}
use Rattle.bound_compare.specs.declared.compared.Compared.TheVariants.{Absent}
use Rattle.cost_free.specs.declared.task.Meter.{Meter}
use Rattle.cost_free.specs.declared.task.Meter.TheVariants.{Ticks, Cells, Work}
use Rattle.cost_free.specs.Schedule.{meters}
use Rattle.annot_types.specs.Program.{Program}
use Rattle.annot_types.specs.Certificate.{Certificate, has_work}
use Rattle.report_text.specs.Names.{name_at}
use Rattle.analysis_report.specs.Comparison.{IsCounterpart, ClaimsCompare, IsComparison, comparisons_text}
use Rattle.analysis_report.specs.Powers.{PowerClaim, InPowers, NotFlat, NoBound, CallsUnbounded, ToldInPowers, power_line, power_lines_of}
use Rattle.analysis_report.specs.Powers.{FitsAt, LeavesAt}
use Rattle.analysis_report.specs.declared.comparing.Comparisons.{Comparisons}
use Rattle.analysis_report.specs.declared.powering.PowerLine.{PowerLine}
use Rattle.analysis_report.specs.declared.powering.PowerLine.TheVariants as line
use Rattle.analysis_report.specs.declared.powers_fault.PowersFault.{PowersFault}
use Rattle.analysis_report.specs.declared.powers_fault.PowersFault.TheVariants as fault

-- the counterpart of a function, or none where it has none
abbrev pub IsCounterpartIn : Prog → Function → Option ℕ → Type 0
IsCounterpartIn Q g None = (other : ℕ) → IsCounterpart Q g other → ⊥
IsCounterpartIn Q g (Some other) = IsCounterpart Q g other

abbrev pub by_meter : Comparisons → Meter → Compared
by_meter found Ticks = found.ticks
by_meter found Cells = found.cells
by_meter found Work = found.work

-- the comparison with the counterpart, where there is one
abbrev pub ComparesIn : Program → Certificate → ℕ → Program → Certificate → Option ℕ → Meter → Compared → Type 0
ComparesIn N c f M e None meter comparison = comparison ≡ Absent
ComparesIn N c f M e (Some other) meter comparison = ClaimsCompare N c f M e other meter comparison

-- The text goes on with the comparisons of a function.
pub record HasComparisons (P : Prog) (N : Program) (c : Certificate) (Q : Prog) (M : Program)
    (e : Certificate) (f : ℕ) (old new : Text) : Type 0 where
  pub comparisons : Meter → Compared
  pub each : (g : Function) (meter : Meter) → slice_get P f ≡ Some g → IsComparison N c Q M e f g meter (comparisons meter)
  pub is : new ≡ old ++ comparisons_text (name_at P f) comparisons

abbrev pub told_of : PowerLine → PowerClaim
told_of (line.Powers form) = InPowers (unsigned_abs form.den) form.terms.items
told_of line.NotFlat = NotFlat
told_of line.NoBound = NoBound
told_of (line.Calls fun) = CallsUnbounded fun.0

-- powers stand over a positive denominator
abbrev pub CanBeWritten : PowerLine → Type 0
CanBeWritten (line.Powers form) = pos 0 <ℤ form.den
CanBeWritten told = Unit {0}

-- the powers of this bound leave
abbrev pub LeavesHere : Prog → Program → Certificate → ℕ → Meter → PowersFault → Type 0
LeavesHere P N c f meter (fault.Leaves fun other) = (fun.0 ≡ f) × (other ≡ meter) × LeavesAt P N c f meter
LeavesHere P N c f meter fault.NoMemory = Unit {0}

-- The text goes on with the line of a function and a meter, which fits.
pub record HasPowerLine (P : Prog) (N : Program) (c : Certificate) (f : ℕ) (meter : Meter) (old new : Text) : Type 0 where
  pub told : PowerClaim
  pub each : (g : Function) → slice_get P f ≡ Some g → ToldInPowers N c f g meter told
  pub is : new ≡ old ++ power_line P (name_at P f) meter told
  pub fits : FitsAt P N c f meter

-- the same with those of a function
pub record HasPowerLines (P : Prog) (N : Program) (c : Certificate) (f : ℕ) (old new : Text) : Type 0 where
  pub told : Meter → PowerClaim
  pub each : (g : Function) (meter : Meter) → slice_get P f ≡ Some g →
      Contains (meters (has_work c)) meter → ToldInPowers N c f g meter (told meter)
  pub is : new ≡ old ++ power_lines_of P c f told
  pub fits : (meter : Meter) → Contains (meters (has_work c)) meter → FitsAt P N c f meter

-- those of the functions below this one fit
abbrev pub AllFitBelow : Prog → Program → Certificate → ℕ → Type 0
AllFitBelow P N c n = (f : ℕ) (meter : Meter) → f < n → Contains (meters (has_work c)) meter → FitsAt P N c f meter
