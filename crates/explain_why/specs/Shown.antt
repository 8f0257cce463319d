-- Sentences at places of a source.
use Rattle.std.specs.Prelude.{◌≡◌, ℕ, List, [], ◌∷◌, ◌++◌, codes, decimal}
use Rattle.raml_syntax.specs.Tree.{Text}
use Rattle.explain_places.specs.Places.{line, column}
use Rattle.explain_sentences.specs.Sentences.{Sentence}

-- NAME:LINE:COLUMN:
abbrev pub place_head : Text → Text → ℕ → Text
place_head name source at = name ++ (codes ":" ++ (decimal (line source at) ++ (codes ":" ++ (decimal (column source at) ++ codes ": "))))

-- A sentence behind its place and its head; in the rest stand the line of the source and a caret.
pub record IsShown (name source head : Text) (s : Sentence) (part : Text) : Type 0 where
  pub rest : Text
  pub is : part ≡ place_head name source s.at ++ (head ++ (s.text ++ rest))

-- sentences, in order, the first behind one head and the others behind another one
abbrev pub AreShown : Text → Text → Text → Text → List Sentence → Text → Type 0
AreShown name source head next [] part = part ≡ []
AreShown name source head next (s ∷ ss) part =
    (first : Text) × (others : Text) × IsShown name source head s first × AreShown name source next next ss others
    × (part ≡ first ++ others)
