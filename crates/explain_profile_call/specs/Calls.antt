-- What a call of `explain profile` tells.
use Rattle.std.specs.Prelude.{◌≡◌, ◌⊎◌, ℕ, List, [], ◌++◌, Option, Some, None, Ok, slice_get, codes}
use Rattle.raml_syntax.specs.Tree.{Text, Function, Prog}
use Rattle.raml_syntax.specs.Place.{place_of}
use Rattle.explain_check.specs.Checks.{IsProgramOf, LacksProgram}
use Rattle.explain_check.specs.Stores.{Store, Holds, error_line}
use Rattle.explain_data.specs.Data.{no_function_line}
use Rattle.explain_sizes.specs.Sizes.{Sizes}
use Rattle.explain_at.specs.Words.{Given, words_of, words_read}
use Rattle.explain_at.specs.Asked.{asked}
use Rattle.explain_at.specs.Read.{names_and_types, AreFilled, IsSizeFault, IsWordFault}
use Rattle.explain_at.specs.Text.{size_text, word_text}
use Rattle.explain_at.specs.declared.fault.SizeFault.{SizeFault}
use Rattle.explain_at.specs.declared.fault.WordFault.{WordFault}
use Rattle.explain_calls.specs.declared.end.End.{End}
use Rattle.explain_calls.specs.declared.end.End.TheVariants as e
use Rattle.explain_words.specs.Spelled.{lent}
use Rattle.explain_words.specs.declared.request.profile.ProfileWords.{ProfileWords}
use Rattle.explain_profile.specs.Runs.{Case}
use Rattle.explain_profile.specs.Profile.{IsProfile, CannotBeCounted}

-- A function of the program that a source spells, and the words that ask for its profile.
pub record Callee : Type 0 where
  pub source : Text
  pub program : Prog
  pub place : ℕ
  pub function : Function
  pub words : ProfileWords

abbrev pub case_for : Callee → Option (List Sizes) → Case
case_for c ss = record { source = c.source; name = c.words.function.now; most = c.words.degree; sizes = ss }

-- no line is counted, and that is told
abbrev pub not_counted : Text
not_counted = codes "explain: no line can be counted, since a limit refuses the analyses: `explain bounds` says which\n"

-- how often lines are run, at sizes that are given; or none of them can be counted
abbrev pub EndsBy : Callee → Option (List Sizes) → End → Text → Text → Type 0
EndsBy c ss e.Told text report = IsProfile (case_for c ss) (lent c.words.at) c.program c.place c.function text × (report ≡ [])
EndsBy c ss e.NotAnalysed text report = CannotBeCounted (case_for c ss) c.program c.place × (text ≡ []) × (report ≡ not_counted)
EndsBy c ss e.Refused text report = ⊥

-- why words are no sizes
abbrev pub no_sizes_line : WordFault → Text
no_sizes_line fault = codes "error: '--at': " ++ (word_text fault ++ codes "\n")

-- why sizes are not those of the parameters of the function of this name
abbrev pub misfit_line : Text → Text → SizeFault → Text
misfit_line file name fault = error_line file (name ++ (codes ": " ++ size_text fault))

-- the words behind `--at` are no sizes: that is told
abbrev pub AreNoSizes : Text → Text → Type 0
AreNoSizes at report =
    (fault : WordFault) × IsWordFault (words_read (Ok []) (words_of at)) fault × (report ≡ no_sizes_line fault)

-- sizes that are not those of the parameters: that is told
abbrev pub DoNotFit : Callee → List Given → Text → Type 0
DoNotFit c gs report =
    (fault : SizeFault) × IsSizeFault (asked gs (names_and_types c.function.params)) fault
    × (report ≡ misfit_line c.words.file.now c.function.name fault)

-- with sizes that are given, where they are those of the parameters
abbrev pub GivenIs : Callee → List Given → End → Text → Text → Type 0
GivenIs c gs end text report =
    ((end ≡ e.Refused) × (text ≡ []) × DoNotFit c gs report)
    ⊎ ((ss : List Sizes) × AreFilled (asked gs (names_and_types c.function.params)) ss × EndsBy c (Some ss) end text report)

-- with the words behind `--at`, where they stand
abbrev pub FunctionIs : Callee → Option Text → End → Text → Text → Type 0
FunctionIs c None end text report = EndsBy c None end text report
FunctionIs c (Some at) end text report =
    ((end ≡ e.Refused) × (text ≡ []) × AreNoSizes at report)
    ⊎ ((gs : List Given) × (words_read (Ok []) (words_of at) ≡ Ok gs) × GivenIs c gs end text report)

abbrev pub function_at : Prog → Option ℕ → Option Function
function_at P None = None
function_at P (Some f) = slice_get P f

-- there is no function of the name
abbrev pub LacksFunction : Prog → ProfileWords → End → Text → Text → Type 0
LacksFunction P words end text report =
    (function_at P (place_of words.function.now P) ≡ None) × (end ≡ e.Refused) × (text ≡ [])
    × (report ≡ no_function_line words.file.now words.function.now)

-- of the program that a source spells
abbrev pub ProgramIs : Text → Prog → ProfileWords → End → Text → Text → Type 0
ProgramIs source P words end text report =
    LacksFunction P words end text report
    ⊎ ((f : ℕ) × (g : Function) × (place_of words.function.now P ≡ Some f) × (slice_get P f ≡ Some g)
    × FunctionIs (record { source = source; program = P; place = f; function = g; words = words }) (lent words.at) end text report)

-- that there is no typed source, else what is told of its program
abbrev pub CallIs : Store → ProfileWords → End → Text → Text → Type 0
CallIs store words end text report =
    ((end ≡ e.Refused) × (text ≡ []) × LacksProgram store words.file.now report)
    ⊎ ((source : Text) × (P : Prog) × Holds store words.file.now source × IsProgramOf source P
    × ProgramIs source P words end text report)
