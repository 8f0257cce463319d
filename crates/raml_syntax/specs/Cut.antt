-- Texts that are cut at a byte.
use Rattle.std.specs.Prelude.{ℕ, cond, nat_eq, [], ◌∷◌, Option, Some, None, option_map}
use Rattle.std.specs.Borrow.{Bor}
use Rattle.raml_syntax.specs.Tree.{Text}

-- with the byte at the front of the first part
abbrev pub with_front : ℕ → Text × Text → Text × Text
with_front byte parts = (byte ∷ parts.0, parts.1)

-- what stands before the first such byte of a text, and behind it
abbrev pub cut_at : ℕ → Text → Option (Text × Text)
cut_at mark [] = None
cut_at mark (byte ∷ text) = cond (nat_eq byte mark) (Some ([], text)) (option_map (with_front byte) (cut_at mark text))

-- two parts that are lent, as plain texts
abbrev pub lent_parts : Option (Bor Text × Bor Text) → Option (Text × Text)
lent_parts = option_map (λ (p : Bor Text × Bor Text). (p.0.now, p.1.now))
