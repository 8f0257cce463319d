-- Names of functions and of meters.
use Rattle.std.specs.Prelude.{ℕ, Option, Some, None, [], codes, slice_get}
use Rattle.raml_syntax.specs.Tree.{Text, Function, Prog}
use Rattle.cost_free.specs.declared.task.Meter.{Meter}
use Rattle.cost_free.specs.declared.task.Meter.TheVariants.{Ticks, Cells, Work}

-- the name of a function; no text is made of one that is not there
abbrev pub name_in : Option Function → Text
name_in None = []
name_in (Some g) = g.name

-- the name of the function at this place of the program
abbrev pub name_at : Prog → ℕ → Text
name_at P f = name_in (slice_get P f)

abbrev pub meter_text : Meter → Text
meter_text Ticks = codes "ticks"
meter_text Cells = codes "cells"
meter_text Work = codes "work"
