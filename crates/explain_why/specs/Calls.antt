-- What a call of `explain why` tells.
use Rattle.std.specs.Prelude.{◌≡◌, ◌⊎◌, ℕ, List, [], ◌∷◌, ◌++◌, Option, Some, None, option_map, codes, decimal}
use Rattle.raml_syntax.specs.Tree.{Text, Prog}
use Rattle.raml_syntax.specs.Place.{place_of}
use Rattle.call_groups.specs.Groups.{Grouping, IsGrouping}
use Rattle.rules_soundness_laws.specs.Laws.{normal_of}
use Rattle.cost_free.specs.declared.task.Meter.{Meter}
use Rattle.explain_check.specs.Checks.{LacksProgram, IsProgramOf}
use Rattle.explain_check.specs.Stores.{Store, Holds}
use Rattle.explain_data.specs.Data.{no_function_line}
use Rattle.explain_degrees.specs.Degrees.{Between, IsRefused}
use Rattle.explain_degrees.specs.declared.least.RefusedDegree.{RefusedDegree}
use Rattle.explain_words.specs.Spelled.{lent}
use Rattle.explain_words.specs.declared.request.why.WhyWords.{WhyWords}
use Rattle.explain_words.specs.declared.within.Meter.{Meter as WordsMeter}
use Rattle.explain_calls.specs.Sizes.{meter_of}
use Rattle.explain_calls.specs.declared.end.End.{End}
use Rattle.explain_calls.specs.declared.end.End.TheVariants as e
use Rattle.explain_reasons.specs.Explanation.{IsExplanation}
use Rattle.explain_reasons.specs.declared.program.Explanation.{Explanation}
use Rattle.explain_why.specs.Chosen.{Asking}
use Rattle.explain_why.specs.Outcome.{Outcome, outcome}
use Rattle.explain_why.specs.Why.{IsWhy, first_change, told_of}

-- ---- the degrees whose analyses are refused

abbrev pub degree_line : ℕ → Text
degree_line degree = codes "explain: degree " ++ (decimal degree ++ codes " is refused: `explain bounds` says why\n")

abbrev pub refused_lines : List RefusedDegree → Text
refused_lines [] = []
refused_lines (refused ∷ more) = degree_line refused.degree ++ refused_lines more

-- the analysis of each degree up to 4 is refused
pub record NoneIsAnalysed (P : Prog) : Type 0 where
  pub groups : Grouping
  pub grouping : IsGrouping P groups
  pub all : Between 0 4 (IsRefused (normal_of P groups.list))

-- ---- what is told of a program

-- nothing is told, but what is wrong
abbrev pub IsRefusal : Outcome → Text → Type 0
IsRefusal told report = told ≡ outcome e.Refused None [] report

-- why functions have no bounds; or the analysis of each degree is refused
abbrev pub EndsBy : Text → Text → Prog → Asking → Explanation → End → Option Text → Text → Type 0
EndsBy name source P asking x e.Told changed text =
    IsWhy name source P asking x text × (changed ≡ first_change (told_of asking x) x.reasons.items)
EndsBy name source P asking x e.NotAnalysed changed text = NoneIsAnalysed P × (changed ≡ None) × (text ≡ [])
EndsBy name source P asking x e.Refused changed text = ⊥

pub record IsExplained (name source : Text) (P : Prog) (degree : ℕ) (asking : Asking) (told : Outcome) : Type 0 where
  pub explanation : Explanation
  pub is : IsExplanation source P degree explanation
  pub ends : EndsBy name source P asking explanation told.end told.changed told.text
  pub refused : told.report ≡ refused_lines explanation.found.refused.items

-- ---- what is told of a call

abbrev pub meter_asked : Option WordsMeter → Option Meter
meter_asked = option_map meter_of

-- what the words ask about, where the function that they name is there
abbrev pub IsAsked : Prog → WhyWords → Asking → Type 0
IsAsked P words asking =
    (asking.meter ≡ meter_asked words.meter)
    × (((lent words.function ≡ None) × (asking.fun ≡ None))
    ⊎ ((name : Text) × (f : ℕ) × (lent words.function ≡ Some name) × (place_of name P ≡ Some f) × (asking.fun ≡ Some f)))

-- the function is not there
abbrev pub LacksFunction : Prog → WhyWords → Outcome → Type 0
LacksFunction P words told =
    (name : Text) × (lent words.function ≡ Some name) × (place_of name P ≡ None) × IsRefusal told (no_function_line words.file.now name)

abbrev pub ProgramIs : Text → Prog → WhyWords → Outcome → Type 0
ProgramIs source P words told =
    LacksFunction P words told
    ⊎ ((asking : Asking) × IsAsked P words asking × IsExplained words.file.now source P words.degree asking told)

-- that there is no typed source, else what is told of its program
abbrev pub CallIs : Store → WhyWords → Outcome → Type 0
CallIs store words told =
    ((report : Text) × LacksProgram store words.file.now report × IsRefusal told report)
    ⊎ ((source : Text) × (P : Prog) × Holds store words.file.now source × IsProgramOf source P × ProgramIs source P words told)
