-- What a clause sees of a document.
use Rattle.std.specs.Prelude.{ℕ, ℤ, List}

pub record Content : Type 0 where
  pub text : List ℕ
  pub version : ℤ
