-- What a store holds.
use Rattle.std.specs.Prelude.{◌≡◌, ℕ, List, Option, Some, take}

-- what each name holds
abbrev pub Files : Type 0
Files = List ℕ → Option (List ℕ)

-- the first bytes of what the name holds: all of them where there are no more than `most`
pub record IsFront (files : Files) (name : List ℕ) (most : ℕ) (bytes : List ℕ) : Type 0 where
  pub content : List ℕ
  pub held : files name ≡ Some content
  pub front : bytes ≡ take most content
