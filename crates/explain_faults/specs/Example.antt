-- Small changes, worked out by hand.
use Rattle.std.specs.Prelude.{◌≡◌, ℕ, codes}
use Rattle.raml_syntax.specs.Tree.{Text}
use Rattle.explain_edits.specs.Edits.{Edit}
use Rattle.explain_faults.specs.Repairs.{changed, behind}

-- `put at length text`
abbrev put : ℕ → ℕ → Text → Edit
put at length text = record { at = at; length = length; text = text }

pub record Examples : Type 0 where
  pub left_out : changed (codes "a == b") (put 3 1 (codes "")) ≡ codes "a = b"
  pub replaced : changed (codes "[x] = y") (put 0 3 (codes "(x :: nil)")) ≡ codes "(x :: nil) = y"
  pub put_in : changed (codes "let x = a b") (put 10 0 (codes "in ")) ≡ codes "let x = a in b"
  pub nothing_new : behind (put 3 1 (codes "")) ≡ 3
  pub words : behind (put 0 3 (codes "(x :: nil)")) ≡ 10
