use Rattle.std.proofs.Common.{◌≡◌}
use Rattle.lsp_server.specs.Documents.{is_unpublished, first_of}
use Rattle.lsp_server.proofs.Places.{first_from}
use Rattle.lsp_server.proofs.documents.unpublished.Given as goal

abbrev pub invariant-loop-place : goal.invariant-loop-place
invariant-loop-place l = first_of is_unpublished l.documents ≡ first_from is_unpublished l.documents l.place
