use Rattle.std.proofs.Common.{◌≡◌}
use Rattle.lsp_server.specs.Documents.{is_of, first_of}
use Rattle.lsp_server.proofs.Places.{first_from}
use Rattle.lsp_server.proofs.documents.place_of.Given as goal

abbrev pub invariant-loop-place : goal.invariant-loop-place
invariant-loop-place l = first_of (is_of l.uri) l.documents ≡ first_from (is_of l.uri) l.documents l.place
