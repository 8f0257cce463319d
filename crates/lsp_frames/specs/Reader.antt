-- What holds of each reader.
use Rattle.std.specs.Prelude.{ℕ, ◌≤◌, List, length, drop}
use Rattle.lsp_frames.specs.Seen.{Knows}
use Rattle.lsp_frames.specs.declared.seen.Seen.{Seen}

pub record IsReader (bytes : List ℕ) (start : ℕ) (seen : Seen) : Type 0 where
  pub within : start ≤ length bytes
  pub knows : Knows (drop start bytes) seen
