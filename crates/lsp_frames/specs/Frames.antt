-- The messages of a stream of bytes.
use Rattle.std.specs.Prelude.{ℕ, zero, suc, ◌+◌, ◌≡◌, ◌≤◌, cond, nat_le, List, [], ◌∷◌, ◌++◌}
use Rattle.std.specs.Prelude.{Option, None, Some, Result, Ok, Err, length, take, drop, codes, decimal}
use Rattle.lsp_frames.specs.Marks.{blank_line, first_place, NoneBefore}
use Rattle.lsp_frames.specs.Fields.{length_in}
use Rattle.lsp_frames.specs.declared.field.FrameFault.{FrameFault}
use Rattle.lsp_frames.specs.declared.field.FrameFault.TheVariants.{HeaderTooLong}

-- a header part has at most so many bytes, its blank line among them
abbrev pub most_header : ℕ
most_header = 8192

-- What the bytes begin with: a header part that has not ended; one at fault; one that tells where its content starts, and its length.
pub data Head : Type 0 where
  Open : Head
  Bad : FrameFault → Head
  Told : (start size : ℕ) → Head

abbrev pub head_told : ℕ → Result ℕ FrameFault → Head
head_told start (Ok size) = Told start size
head_told start (Err fault) = Bad fault

abbrev pub head_at : List ℕ → Option ℕ → Head
head_at bytes None = cond (nat_le most_header (length bytes)) (Bad HeaderTooLong) Open
head_at bytes (Some place) = head_told (place + 4) (length_in (take place bytes))

-- The header part ends at the first blank line.
abbrev pub head_of : List ℕ → Head
head_of bytes = head_at bytes (first_place blank_line (take most_header bytes))

-- What stands at the front of a stream: less than a message, a fault, or a message and the bytes behind it.
pub data Front : Type 0 where
  More : Front
  Faulty : FrameFault → Front
  Whole : (content rest : List ℕ) → Front

abbrev pub front_by : List ℕ → Head → Front
front_by bytes Open = More
front_by bytes (Bad fault) = Faulty fault
front_by bytes (Told start size) =
    cond (nat_le (start + size) (length bytes)) (Whole (take size (drop start bytes)) (drop (start + size) bytes)) More

abbrev pub front : List ℕ → Front
front bytes = front_by bytes (head_of bytes)

-- what is left to read once the front is read: a fault stays
abbrev pub rest_of : List ℕ → Front → List ℕ
rest_of bytes More = bytes
rest_of bytes (Faulty fault) = bytes
rest_of bytes (Whole content rest) = rest

-- The messages of a stream, in order, and the fault that stands behind them, if one does.
pub record Stream : Type 0 where
  pub contents : List (List ℕ)
  pub fault : Option FrameFault

abbrev pub with_first : List ℕ → Stream → Stream
with_first content stream = record { contents = content ∷ stream.contents; fault = stream.fault }

-- the messages from a front on, at most so many
abbrev pub messages_from : Front → ℕ → Stream
messages_from More n = record { contents = []; fault = None }
messages_from (Faulty fault) n = record { contents = []; fault = Some fault }
messages_from (Whole content rest) zero = record { contents = []; fault = None }
messages_from (Whole content rest) (suc n) = with_first content (messages_from (front rest) n)

-- all of them, which are no more than the bytes
abbrev pub messages_of : List ℕ → Stream
messages_of bytes = messages_from (front bytes) (length bytes)

-- what is left once these messages are read, one after another
abbrev pub Leaves : List ℕ → List (List ℕ) → List ℕ → Type 0
Leaves bytes [] rest = bytes ≡ rest
Leaves bytes (content ∷ contents) rest = (next : List ℕ) × (front bytes ≡ Whole content next) × Leaves next contents rest

-- A message and what follows it: a header part, the first blank line, and the content, as long as the header part tells.
pub record IsFrame (bytes content rest : List ℕ) : Type 0 where
  pub header : List ℕ
  pub whole : bytes ≡ header ++ (blank_line ++ (content ++ rest))
  pub first : NoneBefore blank_line (length header) bytes
  pub short : length header + 4 ≤ most_header
  pub told : length_in header ≡ Ok (length content)

-- a message as it is written
abbrev pub frame : List ℕ → List ℕ
frame content = codes "Content-Length: " ++ (decimal (length content) ++ (blank_line ++ content))
