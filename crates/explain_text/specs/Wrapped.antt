-- Lines that are wrapped.
use Rattle.std.specs.Prelude.{◌≡◌, ℕ, Bool, cond, List, [], ◌∷◌, ◌++◌, replicate}

-- each of the texts behind a mark
abbrev pub led : List ℕ → List (List ℕ) → List ℕ
led mark [] = []
led mark (text ∷ texts) = mark ++ (text ++ led mark texts)

-- a newline, and as many spaces
abbrev pub break_of : ℕ → List ℕ
break_of indent = 10 ∷ replicate indent 32

abbrev pub space : List ℕ
space = 32 ∷ []

-- what stands before a piece that is not the first
abbrev pub lead : Bool → List ℕ
lead is_first = cond is_first [] space

-- The text has the same lines as the line: with spaces between them they are the line, and with breaks between them the text.
pub record IsWrapped (mark line text : List ℕ) : Type 0 where
  pub first : List ℕ
  pub others : List (List ℕ)
  pub line_is : line ≡ first ++ led space others
  pub text_is : text ≡ first ++ led mark others
