use Rattle.lsp_frames.proofs.Streams.{shorter}
use Rattle.lsp_frames.proofs.Readers.{message_read, read_more}
use Rattle.lsp_frames.proofs.messages.read_whole.Goals as goal

pub loop-content-smaller : goal.loop-content-smaller
loop-content-smaller c =
    shorter c.loop-content.reader c.in-Message.content.items c.read.new.self
    (message_read c.loop-content.reader c.read.new.self c.in_ok-content.field-0 c.in-Message.content c.in-Message.is c.in_ok-content.ensures.front)

pub loop-content-preserved : goal.loop-content-preserved
loop-content-preserved c = record {
  read = read_more c.args.reader.now c.loop-content.reader c.read.new.self c.args.contents.now.items c.loop-content.contents.items c.push.new.self.items c.in-Message.content
      c.loop-content.invariant.read
      (message_read c.loop-content.reader c.read.new.self c.in_ok-content.field-0 c.in-Message.content c.in-Message.is c.in_ok-content.ensures.front)
      c.in_ok-push.ensures.items;
}
