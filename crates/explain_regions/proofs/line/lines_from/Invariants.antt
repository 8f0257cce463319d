use Rattle.std.proofs.Common.{◌≡◌, ◌∷◌, ◌≤◌, ◌+◌, ◌*◌, ◌^◌, ◌++◌, drop}
use Rattle.explain_regions.specs.Lines as s
use Rattle.explain_regions.specs.Read.{site_of, sites_of, plain_line, plain_lines}
use Rattle.explain_regions.proofs.line.lines_from.Given as goal

abbrev pub invariant-loop-site : goal.invariant-loop-site
invariant-loop-site l = record {
  same : plain_lines l.found.items ++ s.before l.source (plain_line l.line) l.last.0 (s.lines_in l.source (sites_of (drop l.site-index l.rest)))
      ≡ s.lines_in l.source (site_of l.fn.first ∷ sites_of l.rest);
  ticks : l.line.ticks ≤ 2 ^ 32 * (l.site-index + 1);
  cells : l.line.cells ≤ 2 ^ 32 * (l.site-index + 1);
  work : l.line.work ≤ l.site-index + 1;
}
