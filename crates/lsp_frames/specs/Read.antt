-- Streams that are read.
use Rattle.std.specs.Prelude.{ℕ, List, map, Option, None, Some}
use Rattle.lsp_frames.specs.Frames.{Front, More, Faulty, Stream, Leaves}
use Rattle.lsp_frames.specs.declared.field.FrameFault.{FrameFault}
use Rattle.lsp_frames.specs.declared.messages.Messages.{Messages}
use Rattle.std.specs.declared.vec.Vec.{Vec}
use Rattle.std.specs.Global.{Global}

abbrev pub contents_of : List (Vec ℕ Global) → List (List ℕ)
contents_of = map (λ content. content.items)

abbrev pub stream_of : Messages → Stream
stream_of messages = record { contents = contents_of messages.contents.items; fault = messages.fault }

-- these messages are read of the old bytes, behind those that were read before
abbrev pub LeavesBehind : List (List ℕ) → List ℕ → List (List ℕ) → List ℕ → Type 0
LeavesBehind before old after new = (bytes : List ℕ) → Leaves bytes before old → Leaves bytes after new

abbrev pub fault_of : Option FrameFault → Front
fault_of None = More
fault_of (Some fault) = Faulty fault
