-- What a sink holds.
use Rattle.std.specs.Prelude.{◌≡◌, ℕ, ◌<◌, List, ◌++◌, length, take, Option, Some, None}

-- what was written, where that is told, with these bytes after it
abbrev pub grown : Option (List ℕ) → List ℕ → Option (List ℕ)
grown None bytes = None
grown (Some old) bytes = Some (old ++ bytes)

-- a front of the bytes was written, and not all of them
pub record GrewByFront (before now : Option (List ℕ)) (bytes : List ℕ) : Type 0 where
  pub count : ℕ
  pub short : count < length bytes
  pub front : now ≡ grown before (take count bytes)

-- a writer, and how often a put on it has failed
pub record CountedWriter (W : Type 0) : Type 0 where
  pub writer : W
  pub faults : ℕ
