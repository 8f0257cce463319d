-- The line of a byte, without its indentation.
use Rattle.std.specs.Prelude.{ℕ, suc, ◌+◌, ◌||◌, nat_eq, Bool, cond, [], ◌∷◌, length}
use Rattle.raml_syntax.specs.Tree.{Text}
use Rattle.lsp_language.specs.declared.span.Span.{Span}
use Rattle.explain_places.specs.Places.{line_start, line_text}

-- a space or a tab
abbrev pub is_blank : ℕ → Bool
is_blank byte = nat_eq byte 0x20 || nat_eq byte 0x09

-- how many of them stand at the front
abbrev pub indentation : Text → ℕ
indentation [] = 0
indentation (byte ∷ bytes) = cond (is_blank byte) (suc (indentation bytes)) 0

-- from behind the blanks at its front to before the newline at its end
abbrev pub part_of : Text → ℕ → Span
part_of source place = record {
  start = line_start source place + indentation (line_text source place);
  end = line_start source place + length (line_text source place);
}
