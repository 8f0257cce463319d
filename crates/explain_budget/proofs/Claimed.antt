-- Meters that a certificate counts.
use Rattle.std.proofs.Common.{◌≡◌, Bool, true, refl, subst, sym, arith}
use Rattle.std.specs.List.{Contains}
use Rattle.cost_free.specs.Schedule.{meters}
use Rattle.cost_free.specs.declared.task.Meter.{Meter}
use Rattle.cost_free.specs.declared.task.Meter.TheVariants.{Ticks, Cells, Work}

each_there : (meter : Meter) → Contains (meters true) meter
each_there Ticks = (0, omega arith, refl)
each_there Cells = (1, omega arith, refl)
each_there Work = (2, omega arith, refl)

pub meter_there : (meter : Meter) (work : Bool) → work ≡ true → Contains (meters work) meter
meter_there meter work is = subst (λ work. Contains (meters work) meter) (sym is) (each_there meter)
