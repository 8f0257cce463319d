use Rattle.lsp_frames.proofs.Readers.{reader_forgets}
use Rattle.lsp_frames.proofs.reader.FrameReader.forget.Goals as goal

pub invariant_of-self : goal.invariant_of-self
invariant_of-self c = reader_forgets c.self.inside.bytes.items _ c.self.inside.start c.self.inside.seen c.drop_front.ensures c.self.invariant
