-- What the code's faults and bounds are as plain data.
use Rattle.std.specs.Prelude.{Option, None, Some}
use Rattle.cost_free.specs.Read.{task_of}
use Rattle.cert_check.specs.Fault as f
use Rattle.cert_check.specs.declared.fault.CertFault.{CertFault}
use Rattle.cert_check.specs.declared.fault.CertFault.TheVariants.{Shape, Fails, Leaves, TooLarge, NoMemory}

-- None where memory is wanting
abbrev pub fault_of : CertFault → Option f.Fault
fault_of (Shape block) = Some (f.Shape block)
fault_of (Fails block path index) = Some (f.Fails block path.items index)
fault_of (Leaves block path index) = Some (f.Leaves block path.items index)
fault_of (TooLarge task) = Some (f.TooLarge (task_of task))
fault_of NoMemory = None

-- where there is a fault, this is claimed of it
abbrev pub OfFault : Option f.Fault → (Option f.Fault → Type 0) → Type 0
OfFault None claim = Unit {0}
OfFault (Some fault) claim = claim (Some fault)
