-- Lines as they are written.
use Rattle.std.specs.Prelude.{◌≡◌, ℕ, Bool, List, ◌++◌}
use Rattle.explain_text.specs.Wrapped.{lead, IsWrapped}

-- So much of the line is read: what is written, and behind it the piece that waits.
pub record HasRead (mark line text piece : List ℕ) (is_first : Bool) : Type 0 where
  pub written : List ℕ
  pub wrapped : IsWrapped mark written text
  pub is : line ≡ written ++ (lead is_first ++ piece)
