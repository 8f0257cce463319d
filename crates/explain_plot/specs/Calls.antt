-- What a call of `explain plot` draws and tells.
use Rattle.std.specs.Prelude.{◌≡◌, ◌⊎◌, ℕ, max, List, [], ◌++◌, Option, Some, None, codes, decimal, slice_get}
use Rattle.std.specs.List.{All}
use Rattle.raml_syntax.specs.Tree.{Text, Function, Prog}
use Rattle.raml_syntax.specs.Types.{types_of}
use Rattle.raml_syntax.specs.Place.{place_of}
use Rattle.rules_soundness_laws.specs.Laws.{normal_of}
use Rattle.annot_types.specs.Certificate.{Certificate}
use Rattle.annot_types.specs.Program.{Program}
use Rattle.cost_free.specs.declared.task.Meter.{Meter}
use Rattle.bound_infer.specs.Inferred.{IsInferred}
use Rattle.explain_check.specs.Checks.{HoldsProgram, LacksProgram}
use Rattle.explain_check.specs.Stores.{Store}
use Rattle.explain_data.specs.Data.{no_function_line}
use Rattle.explain_degrees.specs.Degrees.{analysis_at, finding_of, IsRefused}
use Rattle.explain_degrees.specs.declared.finding.Finding.{Finding}
use Rattle.explain_degrees.specs.declared.finding.Finding.TheVariants as finding
use Rattle.explain_degrees.specs.declared.finding.Findings.{Findings}
use Rattle.explain_words.specs.Spelled.{lent}
use Rattle.explain_words.specs.declared.request.plot.Arguments.{Arguments}
use Rattle.explain_words.specs.declared.request.plot.Arguments.TheVariants as arguments
use Rattle.explain_words.specs.declared.request.plot.PlotWords.{PlotWords}
use Rattle.explain_calls.specs.Sizes.{meter_of}
use Rattle.explain_calls.specs.Told.{notes}
use Rattle.explain_calls.specs.Calls.{Analysed, names_for}
use Rattle.explain_calls.specs.declared.end.End.{End}
use Rattle.explain_calls.specs.declared.end.End.TheVariants as e
use Rattle.explain_chart.specs.Chart.{Mark, Draws}
use Rattle.explain_marks.specs.Marks.{Origin, OfSizes, OfFiles, IsMarkOf}
use Rattle.explain_marks.specs.declared.marks.Given.{Given}
use Rattle.explain_plot.specs.Along.{no_parameter, sized}
use Rattle.explain_plot.specs.Files.{AreHeld, LacksFile, SomeUnfit, SpellsArguments, names_of}
use Rattle.explain_plot.specs.Sizes.{sizes_in}
use Rattle.explain_plot.specs.Table.{table}

-- what a call comes to: how it ends, the picture, and the texts of what is told and of what is wrong
pub record Outcome : Type 0 where
  pub end : End
  pub picture : Option Text
  pub text : Text
  pub report : Text

-- nothing is told, but what is wrong
abbrev pub IsRefusal : Outcome → Text → Type 0
IsRefusal told report = told ≡ record { end = e.Refused; picture = None; text = []; report = report }

-- the degree of the analysis that tells most of a function and a meter: the least that finds a bound, or else the highest that is not
-- refused
abbrev pub degree_of : Finding → ℕ
degree_of (finding.Bound d poly) = max 1 d
degree_of (finding.NoBound d) = max 1 d
degree_of (finding.Calls d callee) = max 1 d
degree_of finding.Refused = 1

-- where runs end: at some arguments of a size, or at those of a file
pub data Cut : Type 0 where
  AtSize : ℕ → Cut
  AtFile : Text → Cut

abbrev pub and_behind : Text
and_behind =
    codes ", and those on files behind it, are not drawn: they need more than 2000000 instructions together, or arguments of 20000 cells\n"

-- what is not drawn
abbrev pub cut_text : Option Cut → Text
cut_text None = []
cut_text (Some (AtSize size)) =
    codes "explain: some runs of size " ++ (decimal size
    ++ codes ", and all of greater ones, are not drawn: they need more than 2000000 instructions together, or arguments of 20000 cells\n")
cut_text (Some (AtFile name)) = codes "explain: the run on " ++ (name ++ and_behind)

-- The picture draws runs of the function at the place, and the table tells them. Each is a run of the machine, and lies at or below the
-- bound at its arguments by the certificate.
pub record Drawn (P : Prog) (N : Program) (c : Certificate) (f : ℕ) (meter : Meter) (origin : Origin) (svg text report : Text)
    : Type 0 where
  pub marks : List Mark
  pub runs : All (IsMarkOf P N c f meter origin) marks
  pub draws : Draws marks svg
  pub told : text ≡ table marks
  pub cut : Option Cut
  pub cut_told : report ≡ cut_text cut

-- the same by the certificate of the analysis of a degree
pub record IsDrawnAt (P : Prog) (N : Program) (f d : ℕ) (meter : Meter) (origin : Origin) (picture : Option Text) (text report : Text)
    : Type 0 where
  pub certificate : Certificate
  pub inferred : IsInferred (analysis_at N d) certificate
  pub svg : Text
  pub is : picture ≡ Some svg
  pub drawn : Drawn P N certificate f meter origin svg text report

-- by the analysis of a degree it is drawn, or that analysis is refused
abbrev pub EndsAt : End → Prog → Program → ℕ → ℕ → Meter → Origin → Option Text → Text → Text → Type 0
EndsAt e.Told P N f d meter origin picture text report = IsDrawnAt P N f d meter origin picture text report
EndsAt e.NotAnalysed P N f d meter origin picture text report = IsRefused N d × (picture ≡ None) × (text ≡ []) × (report ≡ [])
EndsAt e.Refused P N f d meter origin picture text report = ⊥

-- it is drawn by the analysis that tells most
pub record IsDrawn (P : Prog) (f most : ℕ) (meter : Meter) (origin : Origin) (told : Outcome) : Type 0 where
  pub analysed : Analysed P most
  pub findings : Findings
  pub there : slice_get analysed.found.functions.items f ≡ Some findings
  pub part : Text
  pub ends :
      EndsAt told.end P (normal_of P analysed.groups.list) f (degree_of (finding_of findings meter)) meter origin
      told.picture told.text part
  pub report : told.report ≡ notes (names_for P analysed.groups) analysed.found.refused.items ++ part

-- the function is not there
abbrev pub LacksFunction : Prog → PlotWords → Outcome → Type 0
LacksFunction P words told = (place_of words.name.now P ≡ None) × IsRefusal told (no_function_line words.file.now words.name.now)

-- the words behind `--sizes` give no sizes
abbrev pub no_sizes : Text
no_sizes = codes "error: '--sizes <SIZES>' takes whole numbers of at most 100000 in ascending order, as 1,2,4,8\n"

abbrev pub LacksSizes : Text → Outcome → Type 0
LacksSizes sizes told = (sizes_in sizes ≡ None) × IsRefusal told no_sizes

-- the function has no such parameter that has a size
abbrev pub LacksParameter : Prog → ℕ → PlotWords → Outcome → Type 0
LacksParameter P f words told =
    (g : Function) × (slice_get P f ≡ Some g) × (sized (lent words.parameter) g.params ≡ None) × IsRefusal told (no_parameter words)

-- the function has it, at this place
abbrev pub HasParameter : Prog → ℕ → PlotWords → ℕ → Type 0
HasParameter P f words place =
    (g : Function) × (slice_get P f ≡ Some g) × (sized (lent words.parameter) g.params ≡ Some place)

-- it is drawn on made arguments
abbrev pub AreMadeDrawn : Prog → ℕ → PlotWords → Outcome → Type 0
AreMadeDrawn P f words told = IsDrawn P f words.degree (meter_of words.meter) OfSizes told

-- where the words name a parameter, the function has it
abbrev pub ParameterBy : Option Text → Prog → ℕ → PlotWords → Outcome → Type 0
ParameterBy None P f words told = AreMadeDrawn P f words told
ParameterBy (Some name) P f words told =
    LacksParameter P f words told ⊎ ((place : ℕ) × HasParameter P f words place × AreMadeDrawn P f words told)

abbrev pub ParameterIs : Prog → ℕ → PlotWords → Outcome → Type 0
ParameterIs P f words told = ParameterBy (lent words.parameter) P f words told

-- on arguments of the sizes that a text tells
abbrev pub MadeIs : Prog → ℕ → PlotWords → Text → Outcome → Type 0
MadeIs P f words sizes told =
    LacksSizes sizes told ⊎ ((some : List ℕ) × (sizes_in sizes ≡ Some some) × ParameterIs P f words told)

-- one of the files spells no arguments of the function
abbrev pub LacksArguments : Prog → ℕ → List Given → Outcome → Type 0
LacksArguments P f files told =
    (g : Function) × (slice_get P f ≡ Some g) × (report : Text) × SomeUnfit (types_of g) files report × IsRefusal told report

-- each of them spells some
abbrev pub HasArguments : Prog → ℕ → List Given → Type 0
HasArguments P f files = (g : Function) × (slice_get P f ≡ Some g) × All (SpellsArguments (types_of g)) files

-- it is drawn on the arguments of files, by the sizes of the parameter at the place
abbrev pub AreFilesDrawn : Prog → ℕ → PlotWords → List Given → ℕ → Outcome → Type 0
AreFilesDrawn P f words files place told =
    LacksArguments P f files told
    ⊎ (HasArguments P f files × IsDrawn P f words.degree (meter_of words.meter) (OfFiles place files) told)

abbrev pub GivenIs : Prog → ℕ → PlotWords → List Given → Outcome → Type 0
GivenIs P f words files told =
    LacksParameter P f words told ⊎ ((place : ℕ) × HasParameter P f words place × AreFilesDrawn P f words files place told)

-- what is drawn of the function at the place, where files hold these arguments
abbrev pub FunctionBy : Arguments → Prog → ℕ → PlotWords → List Given → Outcome → Type 0
FunctionBy (arguments.Made sizes seed) P f words files told = MadeIs P f words sizes.now told
FunctionBy (arguments.Given names) P f words files told = GivenIs P f words files told

abbrev pub FunctionIs : Prog → ℕ → PlotWords → List Given → Outcome → Type 0
FunctionIs P f words files told = FunctionBy words.arguments P f words files told

abbrev pub ProgramIs : Prog → PlotWords → List Given → Outcome → Type 0
ProgramIs P words files told =
    LacksFunction P words told ⊎ ((f : ℕ) × (place_of words.name.now P ≡ Some f) × FunctionIs P f words files told)

-- a file of arguments is not read, else what is drawn of the program
abbrev pub FilesGive : Store → Prog → PlotWords → Outcome → Type 0
FilesGive store P words told =
    ((report : Text) × LacksFile store (names_of words.arguments) report × IsRefusal told report)
    ⊎ ((files : List Given) × AreHeld store (names_of words.arguments) files × ProgramIs P words files told)

-- that there is no typed source, else what is drawn of its program
abbrev pub CallIs : Store → PlotWords → Outcome → Type 0
CallIs store words told =
    ((report : Text) × LacksProgram store words.file.now report × IsRefusal told report)
    ⊎ ((P : Prog) × HoldsProgram store words.file.now P × FilesGive store P words told)
