-- The bounds of a run.
use Rattle.std.specs.Prelude.{ℕ, ◌++◌, Option, Some, None, codes, decimal}
use Rattle.raml_syntax.specs.Tree.{Text}
use Rattle.cost_free.specs.declared.task.Meter.{Meter}
use Rattle.cost_free.specs.declared.task.Meter.TheVariants.{Ticks, Cells, Work}
use Rattle.report_text.specs.Names.{meter_text}

-- a bound at the data, rounded down; none where there is no bound
abbrev pub floor_text : Option ℕ → Text
floor_text None = codes "none"
floor_text (Some floor) = decimal floor

-- METER bound N, or METER bound none
abbrev pub run_bound_line : Meter → Option ℕ → Text
run_bound_line meter floor = meter_text meter ++ codes " bound " ++ floor_text floor ++ codes "\n"

-- those of ticks, cells and work
abbrev pub run_bound_lines : Option ℕ → Option ℕ → Option ℕ → Text
run_bound_lines ticks cells work = run_bound_line Ticks ticks ++ run_bound_line Cells cells ++ run_bound_line Work work
