-- What is shown on the line of a byte: how often it is run at most by a call of its function.
use Rattle.std.specs.Prelude.{◌≡◌, ◌⊎◌, ℕ, ◌&&◌, nat_le, nat_lt, Bool, cond, Option, None, Some, string_bytes}
use Rattle.raml_syntax.specs.Tree.{Text, Prog}
use Rattle.lsp_language.specs.declared.insight.Hover.{Hover}
use Rattle.lsp_language.specs.declared.span.Span.{Span}
use Rattle.explain_check.specs.Checks.{IsProgramOf}
use Rattle.explain_profile.specs.Runs.{Case, IsNoSource}
use Rattle.explain_counts.specs.Parts.{part_of}
use Rattle.explain_counts.specs.Lines.{NamedLine, first_begun}
use Rattle.explain_counts.specs.Counts.{IsCount}

-- calls of the function of this name, at any sizes
abbrev pub case_of : ℕ → Text → Text → Case
case_of most source name = record { source = source; name = name; most = most; sizes = None }

-- how often the region of the line is run at most by a call of its function, on the part
pub record IsLineHover (most : ℕ) (source : Text) (part : Span) (found : NamedLine) (hover : Hover) : Type 0 where
  pub span : hover.span ≡ part
  pub text : IsCount (case_of most source found.name) found.line.region (string_bytes hover.text)

-- on a line, and nowhere else
abbrev pub IsShown : ℕ → Text → Span → Option NamedLine → Option Hover → Type 0
IsShown most source part (Some found) (Some hover) = IsLineHover most source part found hover
IsShown most source part (Some found) None = ⊥
IsShown most source part None hover = hover ≡ None

abbrev pub stands_on : Span → ℕ → Bool
stands_on part place = nat_le part.start place && nat_lt place part.end

-- the line of the byte: the first one that begins where the byte stands, without the indentation
abbrev pub line_there : Text → ℕ → Prog → Option NamedLine
line_there source place P = cond (stands_on (part_of source place) place) (first_begun source (part_of source place) P) None

-- What is shown at a byte of a text, by analyses at degrees up to `most`. It is nothing where the text spells no program.
abbrev pub IsToldAt : ℕ → Text → ℕ → Option Hover → Type 0
IsToldAt most text place hover =
    ((P : Prog) × IsProgramOf text P × IsShown most text (part_of text place) (line_there text place P) hover)
    ⊎ (IsNoSource text × (hover ≡ None))
