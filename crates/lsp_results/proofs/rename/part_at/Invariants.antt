use Rattle.std.proofs.Common.{◌≡◌, drop}
use Rattle.lsp_results.specs.Renames.{part_at}
use Rattle.lsp_results.proofs.rename.part_at.Given as goal

abbrev pub invariant-loop-span : goal.invariant-loop-span
invariant-loop-span l = part_at l.place (drop l.span-index l.spans) ≡ part_at l.place l.spans
