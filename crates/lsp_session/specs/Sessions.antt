-- Sessions of a server with an editor.
use Rattle.std.specs.Prelude.{ℕ, ◌≡◌, List, [], ◌++◌, Option}
use Rattle.std.specs.Io.KnownBytes.{Consumes, IsAtEnd}
use Rattle.raml_io.specs.Written.{grown, GrewByFront}
use Rattle.lsp_language.specs.Telling.{Telling}
use Rattle.lsp_frames.specs.Frames.{front, More, Faulty, Whole, Leaves}
use Rattle.lsp_server.specs.State.{State}
use Rattle.lsp_server.specs.Life.{status_of}
use Rattle.lsp_server.specs.declared.life.Flow.{Flow}
use Rattle.lsp_server.specs.declared.life.Flow.TheVariants as f
use Rattle.lsp_session.specs.Deeds.{Deed, Took, Published, Does, Did, taken}
use Rattle.lsp_session.specs.declared.end.SessionEnd.{SessionEnd}
use Rattle.lsp_session.specs.declared.end.SessionEnd.TheVariants as e

-- Two streams at one time: what is still to come of the one, and what the other holds, where that is told.
pub record Streams : Type 0 where
  pub comes : Option (List ℕ)
  pub holds : Option (List ℕ)

abbrev pub streams_of : Option (List ℕ) → Option (List ℕ) → Streams
streams_of comes holds = record { comes = comes; holds = holds }

-- A server and its streams at one time, and what was read and is no message yet.
pub record Moment : Type 0 where
  pub streams : Streams
  pub state : State
  pub rest : List ℕ

abbrev pub moment_of : Option (List ℕ) → Option (List ℕ) → State → List ℕ → Moment
moment_of comes holds state rest = record { streams = streams_of comes holds; state = state; rest = rest }

-- From its start on, the server took each message that was read, once and in order, and what it sent is written.
pub record GoesOn (tells : Telling) (start : Streams) (now : Moment) : Type 0 where
  pub deeds : List Deed
  pub read : List ℕ
  pub sent : List ℕ
  pub did : Did tells deeds now.state sent
  pub consumed : Consumes start.comes now.streams.comes read
  pub left : Leaves read (taken deeds) now.rest
  pub wrote : now.streams.holds ≡ grown start.holds sent

abbrev pub KeepsOn : Telling → Moment → Moment → Type 0
KeepsOn tells before after = (start : Streams) → GoesOn tells start before → GoesOn tells start after

-- A message is at the front of what was read, or none is where diagnostics are published.
abbrev pub IsNext : List ℕ → Deed → Type 0
IsNext rest (Took content) = (next : List ℕ) × (front rest ≡ Whole content next)
IsNext rest Published = front rest ≡ More

-- The next message ends the server with this status, and what it sends is written.
pub record Exits (tells : Telling) (old now : Option (List ℕ)) (state : State) (rest : List ℕ) (status : ℕ) : Type 0 where
  pub content : List ℕ
  pub is_next : IsNext rest (Took content)
  pub last : State
  pub new : List ℕ
  pub does : Does tells (Took content) state last new (f.End status)
  pub wrote : now ≡ grown old new

-- Of what the server sends next, not all is written.
pub record WritesFront (tells : Telling) (before after : Option (List ℕ)) (state : State) (rest : List ℕ) : Type 0 where
  pub deed : Deed
  pub is_next : IsNext rest deed
  pub last : State
  pub new : List ℕ
  pub flow : Flow
  pub does : Does tells deed state last new flow
  pub wrote : GrewByFront before after new

-- why a session ends that went on until then, with what was written by then
abbrev pub EndsBy : Telling → Option (List ℕ) → State → List ℕ → Streams → SessionEnd → Type 0
EndsBy tells before state rest streams (e.Exited status) = Exits tells before streams.holds state rest status
EndsBy tells before state rest streams (e.Closed status) =
    (front rest ≡ More) × IsAtEnd streams.comes × (status ≡ status_of state.life) × (streams.holds ≡ before)
EndsBy tells before state rest streams (e.Faulty fault) = (front rest ≡ Faulty fault) × (streams.holds ≡ before)
EndsBy tells before state rest streams e.WriteFault = WritesFront tells before streams.holds state rest
EndsBy tells before state rest streams cause = streams.holds ≡ before

-- A session that ended.
pub record IsServed (tells : Telling) (start last : Streams) (end : SessionEnd) : Type 0 where
  pub deeds : List Deed
  pub read : List ℕ
  pub rest : List ℕ
  pub sent : List ℕ
  pub state : State
  pub did : Did tells deeds state sent
  pub consumed : Consumes start.comes last.comes read
  pub left : Leaves read (taken deeds) rest
  pub ends : EndsBy tells (grown start.holds sent) state rest last end

abbrev pub EndsIn : Telling → Moment → Streams → SessionEnd → Type 0
EndsIn tells before last end = (start : Streams) → GoesOn tells start before → IsServed tells start last end

-- A piece of what comes is read behind what was read before.
pub record IsFetched (comes left : Option (List ℕ)) (before after : List ℕ) : Type 0 where
  pub piece : List ℕ
  pub consumed : Consumes comes left piece
  pub grew : after ≡ before ++ piece

-- why nothing more is read: nothing more comes, or the stream or memory fails
abbrev pub StopsBy : Option (List ℕ) → Option (List ℕ) → State → SessionEnd → Type 0
StopsBy comes left state (e.Closed status) = IsAtEnd left × (status ≡ status_of state.life) × Consumes comes left []
StopsBy comes left state e.ReadFault = Consumes comes left []
StopsBy comes left state e.NoMemory = (piece : List ℕ) × Consumes comes left piece
StopsBy comes left state cause = ⊥
