-- What a call is given, and what it sees.
use Rattle.std.specs.Prelude.{◌≡◌, ◌≤◌, ℕ, suc, List, length, take, Option, Some, None, IfSome}
use Rattle.raml_syntax.specs.Tree.{Text}
use Rattle.raml_io.specs.Faults.{Rose}
use Rattle.raml_io.specs.Files.{Files, IsFront}
use Rattle.raml_io.specs.Written.{grown, GrewByFront}

-- a count of faults before the call and after it
pub record Count : Type 0 where
  pub before : ℕ
  pub after : ℕ

abbrev pub Rises : Count → Type 0
Rises c = Rose c.before c.after

-- a store: what it tells that its names hold, and its count for each name
pub record Store : Type 0 where
  pub holds : Option Files
  pub reads : Text → Count

-- a sink: its count, and what it tells that was written before the call and after it
pub record Sink : Type 0 where
  pub count : Count
  pub old : Option (List ℕ)
  pub new : Option (List ℕ)

-- the words, the store, out and err
pub record Outside : Type 0 where
  pub words : List Text
  pub store : Store
  pub out : Sink
  pub err : Sink

abbrev pub counts : (Text → ℕ) → (Text → ℕ) → Text → Count
counts before after name = record { before = before name; after = after name }

abbrev pub store_of : Option Files → (Text → ℕ) → (Text → ℕ) → Store
store_of holds before after = record { holds = holds; reads = counts before after }

abbrev pub sink_of : ℕ → ℕ → Option (List ℕ) → Option (List ℕ) → Sink
sink_of before after old new = record { count = record { before = before; after = after }; old = old; new = new }

abbrev pub outside_of : List Text → Store → Sink → Sink → Outside
outside_of words store out err = record { words = words; store = store; out = out; err = err }

-- The two sides of a promise. Sound: a call answers so only where all this is true. Complete: where what the answer needs is true, the
-- call answers so.
pub data Side : Type 0 where
  Sound : Side
  Complete : Side

-- what is true of an answer beyond what it needs
abbrev pub Also : Side → Type 0 → Type 0
Also Sound promise = promise
Also Complete promise = Unit {0}

-- the store tells what the file holds; none where it holds no such file
pub record Tells (store : Store) (file : Text) (content : Option (List ℕ)) : Type 0 where
  pub files : Files
  pub told : store.holds ≡ Some files
  pub held : files file ≡ content

-- the first bytes of what the file holds, where that is told: one more than the limit at most
pub record IsSeen (store : Store) (limit : ℕ) (file bytes : List ℕ) : Type 0 where
  pub few : length bytes ≤ suc limit
  pub front : IfSome store.holds (λ files. IsFront files file (suc limit) bytes)

-- the same where it is told, and where the store's count for the file does not rise
pub record IsToldCalmly (store : Store) (limit : ℕ) (file bytes : List ℕ) : Type 0 where
  pub content : List ℕ
  pub tells : Tells store file (Some content)
  pub front : bytes ≡ take (suc limit) content
  pub calm : ¬ (Rises (store.reads file))

-- What is read of a file. None where it is not: then the store's count for it rose; and it is not read where it is told
-- that there is no such file.
abbrev pub IsRead : Side → Store → ℕ → List ℕ → Option (List ℕ) → Type 0
IsRead Sound store limit file (Some bytes) = IsSeen store limit file bytes
IsRead Sound store limit file None = Rises (store.reads file)
IsRead Complete store limit file (Some bytes) = IsToldCalmly store limit file bytes
IsRead Complete store limit file None = Tells store file None

-- a sink gains nothing, the whole text, or a front of it where its count rises
abbrev pub GainsNothing : Sink → Type 0
GainsNothing sink = sink.new ≡ sink.old

abbrev pub Gains : Text → Sink → Type 0
Gains text sink = sink.new ≡ grown sink.old text

abbrev pub GainsFront : Text → Sink → Type 0
GainsFront text sink = GrewByFront sink.old sink.new text × Rises sink.count
