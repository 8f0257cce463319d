-- Texts that are kept but for one stretch.
use Rattle.std.specs.Prelude.{◌≡◌, ℕ, ◌++◌, take, drop}
use Rattle.raml_syntax.specs.Tree.{Text}

-- the source with another text in the place of what stands from one byte on and before another
abbrev pub with_stretch : Text → ℕ → ℕ → Text → Text
with_stretch source from to by = (take from source ++ by) ++ drop to source

-- the text is the source with another text in the place of one stretch
pub record IsReplaced (source text : Text) : Type 0 where
  pub from : ℕ
  pub to : ℕ
  pub by : Text
  pub replaced : text ≡ with_stretch source from to by
