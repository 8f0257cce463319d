-- What an editor is told where an analysis is given up.
use Rattle.std.specs.Prelude.{ℕ, Bool, cond, Some, List, [], ◌∷◌, ◌++◌, ◌&&◌, codes, decimal}
use Rattle.raml_syntax.specs.Tree.{Text, Function}
use Rattle.lsp_language.specs.declared.insight.Severity.TheVariants as severity
use Rattle.explain_degrees.specs.declared.finding.Findings.{Findings}
use Rattle.explain_lines.specs.Lines.{is_bounded}
use Rattle.explain_advice.specs.Information.{Information}

-- the analysis of this degree takes more pivots than it may
abbrev pub message : ℕ → ℕ → Text
message degree pivots =
    codes "the analysis of degree " ++ (decimal degree
    ++ (codes " was given up: it takes more than " ++ (decimal pivots ++ codes " pivots (--budget)")))

-- the bounds of all meters are known
abbrev pub are_bounded : Findings → Bool
are_bounded findings = is_bounded findings.ticks && (is_bounded findings.cells && is_bounded findings.work)

-- it is told where a function begins
abbrev pub of_function : Text → Function → Information
of_function words g = record { at = g.at; severity = severity.Information; code = Some (codes "given-up"); message = words; related = [] }

-- of all functions of which not all bounds are known
abbrev pub of_functions : Text → List Function → List Findings → List Information
of_functions words [] found = []
of_functions words (g ∷ gs) [] = []
of_functions words (g ∷ gs) (findings ∷ found) =
    cond (are_bounded findings) [] (of_function words g ∷ []) ++ of_functions words gs found
