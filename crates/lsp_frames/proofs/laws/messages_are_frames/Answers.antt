use Rattle.lsp_frames.proofs.Shapes.{frame_is, front_is}
use Rattle.lsp_frames.proofs.laws.messages_are_frames.Goals as goal

pub returns-clause-read : goal.returns-clause-read
returns-clause-read c = frame_is

pub returns-clause-only : goal.returns-clause-only
returns-clause-only c = front_is
