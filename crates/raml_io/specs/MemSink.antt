-- A sink in memory.
use Rattle.std.specs.Prelude.{◌≡◌, ℕ, ◌-◌, ◌⊎◌, min, List, [], ◌++◌, length, take, Contains}
use Rattle.raml_io.specs.Faults.{next_count}

pub record SinkState : Type 0 where
  -- how many bytes it takes at all, and how many in one put
  pub room : ℕ
  pub most : ℕ
  -- the numbers of the puts that fail
  pub failing : List ℕ
  pub written : List ℕ
  -- the number of the next put of a piece that is not empty, from 0
  pub puts : ℕ
  -- how many puts have failed
  pub faults : ℕ

-- a sink that nothing was put to yet
abbrev pub new_sink : ℕ → ℕ → List ℕ → SinkState
new_sink room most failing =
    record { room = room; most = most; failing = failing; written = []; puts = 0; faults = 0 }

-- the next put of a piece that is not empty fails
abbrev pub FailsPut : SinkState → Type 0
FailsPut s = Contains s.failing s.puts ⊎ (length s.written ≡ s.room)

-- how many bytes of a piece are taken where the put does not fail
abbrev pub taken : SinkState → List ℕ → ℕ
taken s piece = min (length piece) (min s.most (s.room - length s.written))

-- after a put of a piece that is not empty, without a fault
abbrev pub after_put : SinkState → List ℕ → SinkState
after_put s piece =
    record s { written = s.written ++ take (taken s piece) piece; puts = next_count s.puts }

-- after a put that failed
abbrev pub after_fault : SinkState → SinkState
after_fault s = record s { puts = next_count s.puts; faults = next_count s.faults }
