-- What a reader knows of the bytes that it has not read, so that it looks at none of them again.
use Rattle.std.specs.Prelude.{ℕ, ◌≡◌, ◌≤◌, ◌-◌, List, length}
use Rattle.lsp_frames.specs.Marks.{blank_line, NoneBefore}
use Rattle.lsp_frames.specs.Frames as f
use Rattle.lsp_frames.specs.Frames.{head_of, Head, Front}
use Rattle.lsp_frames.specs.declared.seen.Seen.{Seen}
use Rattle.lsp_frames.specs.declared.seen.Seen.TheVariants.{Open, Bad, Told}
use Rattle.lsp_frames.specs.declared.seen.Reading.{Reading}
use Rattle.lsp_frames.specs.declared.seen.Reading.TheVariants.{Message, More, Faulty}

abbrev pub head_seen : Seen → Head
head_seen (Open place) = f.Open
head_seen (Bad fault) = f.Bad fault
head_seen (Told start size) = f.Told start size

-- no blank line begins before the place, and none can begin there once more bytes come; or what the header part tells
abbrev pub Knows : List ℕ → Seen → Type 0
Knows bytes (Open place) = NoneBefore blank_line place bytes × (place ≤ length bytes - 3)
Knows bytes (Bad fault) = head_of bytes ≡ f.Bad fault
Knows bytes (Told start size) = head_of bytes ≡ f.Told start size

-- the front that a reading tells, where these bytes are left behind it
abbrev pub front_told : Reading → List ℕ → Front
front_told (Message content) rest = f.Whole content.items rest
front_told More rest = f.More
front_told (Faulty fault) rest = f.Faulty fault

-- the front is no whole message
abbrev pub Ends : Front → Type 0
Ends (f.Whole content rest) = ⊥
Ends f.More = Unit {0}
Ends (f.Faulty fault) = Unit {0}
