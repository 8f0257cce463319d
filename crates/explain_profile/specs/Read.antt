-- What the code has of a case as plain data.
use Rattle.std.specs.Prelude.{◌≡◌, ℕ, List, Option, Some, None, option_map}
use Rattle.std.specs.List.{Contains}
use Rattle.std.specs.Borrow.{Bor}
use Rattle.raml_syntax.specs.Tree.{Text}
use Rattle.raml_syntax.specs.Read.{program_of}
use Rattle.raml_syntax.specs.declared.program.Program.{Program}
use Rattle.explain_check.specs.Checks.{IsProgramOf}
use Rattle.explain_sizes.specs.Sizes.{Sizes}
use Rattle.explain_sizes.specs.Read.{all_sizes}
use Rattle.explain_sizes.specs.declared.size.Size.{Size}
use Rattle.explain_profile.specs.Runs as r
use Rattle.explain_profile.specs.Runs.{IsNoSource}
use Rattle.explain_profile.specs.declared.runs.Case.{Case}
use Rattle.explain_profile.specs.declared.rows.Row.{Row}

abbrev pub sizes_in : Option (Bor (List Size)) → Option (List Sizes)
sizes_in = option_map (λ (ss : Bor (List Size)). all_sizes ss.now)

abbrev pub case_of : Case → r.Case
case_of c = record { source = c.source.now; name = c.name.now; most = c.most; sizes = sizes_in c.sizes }

abbrev pub text_in : Option (Bor Text) → Option Text
text_in = option_map (λ (text : Bor Text). text.now)

-- the program that a text spells, or there is none
abbrev pub SpellsIt : Text → Option Program → Type 0
SpellsIt text (Some program) = IsProgramOf text (program_of program)
SpellsIt text None = IsNoSource text

-- it is one of these, and is of this region
abbrev pub IsRowOf : List Row → ℕ → Row → Type 0
IsRowOf rows region row = Contains rows row × (row.line.region.0 ≡ region)
