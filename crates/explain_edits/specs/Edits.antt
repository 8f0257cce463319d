-- Texts in which some bytes are replaced.
use Rattle.std.specs.Prelude.{ℕ, ◌+◌, ◌-◌, List, [], ◌∷◌, ◌++◌, take, drop}
use Rattle.raml_syntax.specs.Tree.{Text}

-- as many bytes, from one on, are replaced by a text
pub record Edit : Type 0 where
  pub at : ℕ
  pub length : ℕ
  pub text : Text

-- the source from a byte on, once it is edited; the edits stand in order
abbrev pub edited_from : Text → ℕ → List Edit → Text
edited_from source from [] = drop from source
edited_from source from (e ∷ edits) = (take (e.at - from) (drop from source) ++ e.text) ++ edited_from source (e.at + e.length) edits

abbrev pub with_edits : Text → List Edit → Text
with_edits source edits = edited_from source 0 edits
