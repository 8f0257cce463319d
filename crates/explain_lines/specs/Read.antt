-- What the code's lines are as plain data.
use Rattle.std.specs.Prelude.{List, map}
use Rattle.explain_lines.specs.Mended as m
use Rattle.explain_lines.specs.declared.bounds.Line.{Line}

abbrev pub line_of : Line → m.Line
line_of line = record { fun = line.fun.0; meter = line.meter }

abbrev pub lines_of : List Line → List m.Line
lines_of = map line_of
