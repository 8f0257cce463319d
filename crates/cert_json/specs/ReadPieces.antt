-- The pieces of blocks that the code has.
use Rattle.serde_json.specs.View.{view}
use Rattle.cost_free.specs.Task.{Task}
use Rattle.cost_free.specs.Read.{task_of}
use Rattle.cert_json.specs.declared.pieces.Piece.{Piece}
use Rattle.cert_json.specs.declared.pieces.Piece.TheVariants.{Solved, Refuted, Calls}
use Rattle.cert_json.specs.declared.pieces.Pieces.{Pieces}
use Rattle.cert_json.specs.Pieces as s

abbrev pub piece_of : Piece → s.Piece
piece_of (Solved hints sigs) = s.Solved (view hints.now) (view sigs.now)
piece_of (Refuted farkas) = s.Refuted (view farkas.now)
piece_of (Calls fun) = s.Calls (view fun.now)

abbrev pub pieces_of : Pieces → Task × s.Piece
pieces_of p = (task_of p.task, piece_of p.piece)
