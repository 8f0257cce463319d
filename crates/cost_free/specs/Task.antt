-- Tasks, and how they come out.
use Rattle.std.specs.Prelude.{ℕ, Bool, true, false}
pub use Rattle.cost_free.specs.declared.task.Meter.{Meter}
pub use Rattle.cost_free.specs.declared.task.Meter.TheVariants.{Ticks, Cells, Work}
pub use Rattle.cost_free.specs.declared.task.Done.{Done}

-- Free has a budget, a function and the number of one of its targets; With has a meter.
pub data Kind : Type 0 where
  Free : ℕ → ℕ → ℕ → Kind
  With : Meter → Kind

-- a task of the group at this place
pub record Task : Type 0 where
  pub group : ℕ
  pub kind : Kind

-- a task that was done, and how it came out
abbrev pub Outcome : Type 0
Outcome = Task × Done

abbrev pub same_meter : Meter → Meter → Bool
same_meter Ticks Ticks = true
same_meter Cells Cells = true
same_meter Work Work = true
same_meter _ _ = false
