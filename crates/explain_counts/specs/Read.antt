-- What the code's lines are as plain data.
use Rattle.explain_regions.specs.Read.{plain_line}
use Rattle.explain_counts.specs.Lines as l
use Rattle.explain_counts.specs.declared.line.NamedLine.{NamedLine}

abbrev pub named_of : NamedLine → l.NamedLine
named_of found = record { name = found.name.now; line = plain_line found.line }
