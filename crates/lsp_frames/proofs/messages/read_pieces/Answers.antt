use Rattle.std.proofs.Common.{arith}
use Rattle.lsp_frames.specs.Read.{contents_of}
use Rattle.lsp_frames.proofs.Readers.{nothing_read, nothing_stands, piece_more, all_pieces}
use Rattle.lsp_frames.proofs.messages.read_pieces.Goals as goal

pub loop-piece-init : goal.loop-piece-init
loop-piece-init c = record {
  leaves = nothing_read c.new-contents.result.items c.new-reader.result c.new-contents.ensures.items c.new-reader.ensures;
  ends = nothing_stands c.new-reader.result c.new-reader.ensures;
}

pub loop-piece-preserved : goal.loop-piece-preserved
loop-piece-preserved c = record {
  leaves = c.in_ok-read_whole.ensures.leaves _
      (piece_more c.args.pieces.now c.loop-piece.piece-index c.piece-item.result c.loop-piece.reader c.push.new.self c.deref.result.now (contents_of c.loop-piece.contents.items)
      (omega arith) c.piece-item.is c.deref.ensures.value c.in_ok-push.ensures.ok c.loop-piece.invariant.leaves);
  ends = c.in_ok-read_whole.ensures.ends;
}

pub returns : goal.returns
returns c =
    all_pieces c.args.pieces.now c.loop-piece.piece-index (contents_of c.loop-piece.contents.items) c.loop-piece.reader c.in_ok-fault.fault (omega arith)
    c.loop-piece.invariant.leaves (c.in_ok-fault.ensures c.loop-piece.invariant.ends)
