-- What a machine keeps.
use Rattle.std.specs.Prelude.{◌≤◌, ◌*◌, ◌^◌, length, IfSome}
use Rattle.value_text.specs.Heap.{IsBelow}
use Rattle.metered_vm.specs.Running.{AllBelow, IsSound}
use Rattle.metered_vm.specs.Seen.{Seen, Kept, cells_in}
use Rattle.metered_vm.specs.declared.vm.Vm.TheInside.{Inside}

abbrev pub seen_of : Inside → Seen
seen_of vm = record { program = vm.code.now; fun = vm.fun.0; args = vm.args.items; machine = vm.machine; word = vm.word }

pub record Holds (vm : Seen) : Type 0 where
  pub kept : Kept vm
  pub sound : IsSound vm.machine
  pub args : AllBelow (length (cells_in vm)) vm.args
  pub word : IfSome vm.word (IsBelow (length (cells_in vm)))
  pub ticks : vm.machine.ticks ≤ vm.machine.made * 2 ^ 32

abbrev pub Keeps : Inside → Type 0
Keeps vm = Holds (seen_of vm)
