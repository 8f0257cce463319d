-- What a call of `explain bounds` tells.
use Rattle.std.specs.Prelude.{◌≡◌, ◌⊎◌, ℕ, Bool, true, false, cond, Option, Some, None, List, [], ◌∷◌, ◌++◌, Ok, codes}
use Rattle.raml_syntax.specs.Tree.{Text, Prog}
use Rattle.raml_syntax.specs.Eval.{find}
use Rattle.call_groups.specs.Groups.{Grouping, IsGrouping}
use Rattle.rules_soundness_laws.specs.Laws.{normal_of}
use Rattle.refusals.specs.Line.{Names}
use Rattle.explain_check.specs.Stores.{Store, error_line}
use Rattle.explain_check.specs.Checks.{HoldsProgram, LacksProgram}
use Rattle.explain_data.specs.Data.{no_function_line}
use Rattle.explain_degrees.specs.Degrees.{AreLeast, Between, IsRefused}
use Rattle.explain_degrees.specs.declared.least.LeastBounds.{LeastBounds}
use Rattle.explain_degrees.specs.declared.finding.Findings.{Findings}
use Rattle.explain_degrees.specs.declared.finding.Finding.TheVariants as finding
use Rattle.explain_at.specs.Words.{Given}
use Rattle.explain_at.specs.Read.{IsWordFault}
use Rattle.explain_at.specs.Text.{word_text}
use Rattle.explain_at.specs.declared.fault.WordFault.{WordFault}
use Rattle.explain_words.specs.Spelled.{lent}
use Rattle.explain_words.specs.declared.request.bounds.BoundsWords.{BoundsWords}
use Rattle.explain_calls.specs.Sizes.{given_in, fit, fits_some}
use Rattle.explain_calls.specs.Told.{Layout, Lines, Objects, Showing, AreParts, notes}
use Rattle.explain_calls.specs.declared.end.End.{End}
use Rattle.explain_calls.specs.declared.end.End.TheVariants as e

-- The program in normal form, and what its analyses up to a degree find.
pub record Analysed (P : Prog) (most : ℕ) : Type 0 where
  pub groups : Grouping
  pub grouping : IsGrouping P groups
  pub found : LeastBounds
  pub least : AreLeast P (normal_of P groups.list) most found

abbrev pub names_for : Prog → Grouping → Names
names_for P groups = record { program = P; groups = groups.list }

-- how the words have bounds shown, with these sizes
abbrev pub layout_of : Bool → Option ℕ → Layout
layout_of json width = cond json Objects (Lines width)

abbrev pub showing_of : BoundsWords → Option ℕ → List Given → Showing
showing_of words width gs = record {
  name = lent words.function;
  fit = fit words.within (lent words.at) gs;
  layout = layout_of words.json width;
}

-- the bounds are told, and of which degrees the analysis is refused
pub record BoundsAreTold (P : Prog) (most : ℕ) (showing : Showing) (text report : Text) : Type 0 where
  pub analysed : Analysed P most
  pub bounds : AreParts P showing P analysed.found.functions.items text
  pub refused : report ≡ notes (names_for P analysed.groups) analysed.found.refused.items

-- the analysis of each degree is refused, and that is told
pub record NoneIsAnalysed (P : Prog) (most : ℕ) (report : Text) : Type 0 where
  pub analysed : Analysed P most
  pub all : Between 0 most (IsRefused (normal_of P analysed.groups.list))
  pub refused : report ≡ notes (names_for P analysed.groups) analysed.found.refused.items

-- no analysis found anything of the ticks of the first function
abbrev pub TicksAreRefused : List Findings → Type 0
TicksAreRefused (findings ∷ more) = findings.ticks ≡ finding.Refused
TicksAreRefused [] = ⊥

-- what is told of the analyses up to a degree
abbrev pub AnalysedIs : Prog → ℕ → Showing → End → Text → Text → Type 0
AnalysedIs P most showing e.Told text report = BoundsAreTold P most showing text report
AnalysedIs P most showing e.NotAnalysed text report = (text ≡ []) × NoneIsAnalysed P most report
AnalysedIs P most showing e.Refused text report = ⊥

-- there is no function of the name that is asked for
abbrev pub LacksFunction : Prog → BoundsWords → Text → Type 0
LacksFunction P words report =
    (name : Text) × (lent words.function ≡ Some name) × (find name P ≡ None) × (report ≡ no_function_line words.file.now name)

-- the words behind `--at` give no sizes
abbrev pub HasNoSizes : BoundsWords → Text → Type 0
HasNoSizes words report =
    (fault : WordFault) × IsWordFault (given_in (lent words.at)) fault
    × (report ≡ codes "error: '--at': " ++ (word_text fault ++ codes "\n"))

-- one of the functions that are asked for has the sizes, or none has
abbrev pub fits_some_of : Prog → BoundsWords → List Given → Bool
fits_some_of P words gs = fits_some (lent words.function) (fit words.within (lent words.at) gs) P

abbrev pub FitsNone : Prog → BoundsWords → Text → Type 0
FitsNone P words report =
    (gs : List Given) × (rest : Text) × (given_in (lent words.at) ≡ Ok gs) × (fits_some_of P words gs ≡ false)
    × (report ≡ error_line words.file.now rest)

-- what is told of a program
abbrev pub ProgramIs : Prog → BoundsWords → Option ℕ → End → Text → Text → Type 0
ProgramIs P words width e.Refused text report =
    (text ≡ []) × (LacksFunction P words report ⊎ (HasNoSizes words report ⊎ FitsNone P words report))
ProgramIs P words width end text report =
    (gs : List Given) × (given_in (lent words.at) ≡ Ok gs) × (fits_some_of P words gs ≡ true)
    × AnalysedIs P words.degree (showing_of words width gs) end text report

-- what is told of a call
abbrev pub CallIs : Store → BoundsWords → Option ℕ → End → Text → Text → Type 0
CallIs store words width end text report =
    ((end ≡ e.Refused) × (text ≡ []) × LacksProgram store words.file.now report)
    ⊎ ((P : Prog) × HoldsProgram store words.file.now P × ProgramIs P words width end text report)
