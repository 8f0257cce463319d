use Rattle.std.proofs.Common.{take}
use Rattle.std.specs.List.{flat_map}
use Rattle.lsp_frames.specs.Frames.{front, Leaves}
use Rattle.lsp_frames.specs.Read.{contents_of}
use Rattle.lsp_frames.specs.Seen.{Ends}
use Rattle.lsp_frames.proofs.messages.read_pieces.Given as goal

abbrev pub invariant-loop-piece : goal.invariant-loop-piece
invariant-loop-piece l = record {
  leaves : Leaves (flat_map (λ piece. piece.items) (take l.piece-index l.pieces)) (contents_of l.contents.items) l.reader;
  ends : Ends (front l.reader);
}
