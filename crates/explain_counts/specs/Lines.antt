-- The line of a body that begins on a part of a source.
use Rattle.std.specs.Prelude.{◌&&◌, nat_le, nat_lt, Bool, cond, List, [], ◌∷◌, Option, None, Some}
use Rattle.raml_syntax.specs.Tree.{Text, Function, Prog}
use Rattle.lsp_language.specs.declared.span.Span.{Span}
use Rattle.explain_regions.specs.Lines.{Line, lines}

-- the first form of the line begins on the part
abbrev pub begins_on : Span → Line → Bool
begins_on part l = nat_le part.start l.at && nat_lt l.at part.end

-- the first of the lines that begins there
abbrev pub first_of : Span → List Line → Option Line
first_of part [] = None
first_of part (l ∷ ls) = cond (begins_on part l) (Some l) (first_of part ls)

abbrev pub line_of : Text → Span → Function → Option Line
line_of source part g = first_of part (lines source g.body)

-- a line of the body of the function of this name
pub record NamedLine : Type 0 where
  pub name : Text
  pub line : Line

-- the line, or else the others
abbrev pub or_else : Text → Option Line → Option NamedLine → Option NamedLine
or_else name None others = others
or_else name (Some l) others = Some (record { name = name; line = l })

-- the first line of the bodies of functions that begins on the part
abbrev pub first_begun : Text → Span → Prog → Option NamedLine
first_begun source part [] = None
first_begun source part (g ∷ gs) = or_else g.name (line_of source part g) (first_begun source part gs)
