-- What the code's forms and lines are as plain data.
use Rattle.std.specs.Prelude.{List, map}
use Rattle.explain_regions.specs.Regions as r
use Rattle.explain_regions.specs.Lines as l
use Rattle.explain_regions.specs.declared.site.Site.{Site}
use Rattle.explain_regions.specs.declared.line.Line.{Line}

abbrev pub site_of : Site → r.Site
site_of s = record { at = s.at.0; region = s.region.0; ticks = s.ticks; cells = s.cells }

abbrev pub sites_of : List Site → List r.Site
sites_of = map site_of

abbrev pub plain_line : Line → l.Line
plain_line x = record { at = x.at.0; region = x.region.0; ticks = x.ticks; cells = x.cells; work = x.work }

abbrev pub plain_lines : List Line → List l.Line
plain_lines = map plain_line
