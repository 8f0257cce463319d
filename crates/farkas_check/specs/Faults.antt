-- The fault of a check, and the first fault of a list of checks.
use Rattle.std.specs.Prelude.{List, Option, Some, None}
use Rattle.farkas_check.specs.declared.Verdict.{Verdict}
use Rattle.farkas_check.specs.declared.fault.Asked.{Asked}
use Rattle.farkas_check.specs.declared.fault.Asked.TheVariants.{AtMostZero, AtLeastZero, MoreThanZero, Zero}
use Rattle.farkas_check.specs.Checks.{Demand, NotAbove, NotBelow, Above, Level, Check, Passes, EachPasses, IsFault, IsFirstFault}

abbrev pub demand_of : Asked → Demand
demand_of AtMostZero = NotAbove
demand_of AtLeastZero = NotBelow
demand_of MoreThanZero = Above
demand_of Zero = Level

-- none where the check passes, or its fault
abbrev pub FaultOf : Check → Option Verdict → Type 0
FaultOf k None = Passes k
FaultOf k (Some v) = IsFault k v

-- none where each check passes, or the first fault
abbrev pub FirstFaultOf : List Check → Option Verdict → Type 0
FirstFaultOf ks None = EachPasses ks
FirstFaultOf ks (Some v) = IsFirstFault ks v
