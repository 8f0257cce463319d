-- What the code has of runs.
use Rattle.std.specs.Prelude.{List, map}
use Rattle.explain_chart.specs.Chart as chart
use Rattle.explain_chart.specs.declared.mark.Mark.{Mark}

abbrev pub mark_in : Mark → chart.Mark
mark_in m = record { size = m.size; kind = m.kind.now; cost = m.cost; bound = m.bound }

abbrev pub marks_in : List Mark → List chart.Mark
marks_in = map mark_in
