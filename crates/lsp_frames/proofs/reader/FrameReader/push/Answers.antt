use Rattle.lsp_frames.proofs.Readers.{reader_more}
use Rattle.lsp_frames.proofs.reader.FrameReader.push.Goals as goal

pub invariant_of-self : goal.invariant_of-self
invariant_of-self c = reader_more c.self.inside.bytes.items _ c.args.bytes.now c.self.inside.start c.self.inside.seen _ c.extend_from_slice.ensures.items c.self.invariant
