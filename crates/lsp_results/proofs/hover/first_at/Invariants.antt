use Rattle.std.proofs.Common.{◌≡◌, drop}
use Rattle.lsp_results.specs.Hovers.{first_at}
use Rattle.lsp_results.proofs.hover.first_at.Given as goal

abbrev pub invariant-loop-hover : goal.invariant-loop-hover
invariant-loop-hover l = first_at l.place (drop l.hover-index l.hovers) ≡ first_at l.place l.hovers
