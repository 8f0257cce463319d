-- How calls of `explain` end, and what they write.
use Rattle.std.specs.Prelude.{◌≡◌, ◌⊎◌, ◌++◌, ◌||◌, ℕ, zero, suc, min, Bool, true, false, cond, List, [], ◌∷◌, Option, Some, None, codes, string_bytes}
use Rattle.std.specs.Borrow.{Bor}
use Rattle.std.specs.Str.{bytes_eq}
use Rattle.raml_syntax.specs.Tree.{Text}
use Rattle.explain_check.specs.Checks.{FilesAre, texts}
use Rattle.explain_check.specs.Stores.{Store, error_line}
use Rattle.explain_check.specs.declared.verdict.Verdict.{Verdict}
use Rattle.explain_check.specs.declared.verdict.Verdict.TheVariants as v
use Rattle.explain_data.specs.Data.{CallIs}
use Rattle.explain_data.specs.declared.finding.Finding.{Finding}
use Rattle.explain_data.specs.declared.finding.Finding.TheVariants as f
use Rattle.explain_calls.specs.Calls as calls
use Rattle.explain_calls.specs.declared.end.End.{End}
use Rattle.explain_calls.specs.declared.end.End.TheVariants as e
use Rattle.explain_calls.specs.Draft.{DraftIs}
use Rattle.explain_calls.specs.declared.draft.Draft.{Draft}
use Rattle.explain_calls.specs.declared.draft.Draft.TheVariants as draft
use Rattle.explain_budget.specs.Calls as budget
use Rattle.explain_budget.specs.Calls.{words_of}
use Rattle.explain_budget.specs.declared.end.BudgetEnd.{BudgetEnd}
use Rattle.explain_budget.specs.declared.end.BudgetEnd.TheVariants as b
use Rattle.explain_verify.specs.Verified as verify
use Rattle.explain_verify.specs.declared.verification.Verification.{Verification}
use Rattle.explain_verify.specs.declared.verification.Verification.TheVariants as o
use Rattle.explain_words.specs.Asking.{Asks, AsksToShow, AsksNothing}
use Rattle.explain_words.specs.declared.request.Request.{Request}
use Rattle.explain_words.specs.declared.request.lsp.LspWords.{LspWords}
use Rattle.explain_words.specs.declared.request.Request.TheVariants.{Check, CheckData, Bounds, Budget, WriteBudget, Verify}
use Rattle.explain_words.specs.declared.request.Request.TheVariants.{Why, Plot, Profile, Lsp}
use Rattle.explain_words.specs.declared.request.bounds.BoundsWords.{BoundsWords}
use Rattle.explain_words.specs.declared.request.plot.PlotWords.{PlotWords}
use Rattle.explain_words.specs.declared.request.why.WhyWords.{WhyWords}
use Rattle.explain_words.specs.declared.request.why.Written.{Written}
use Rattle.explain_plot.specs.Calls as plot
use Rattle.explain_plot.specs.Files.{names_of}
use Rattle.explain_words.specs.declared.request.profile.ProfileWords.{ProfileWords}
use Rattle.explain_profile_call.specs.Calls as profile
use Rattle.explain_why.specs.Calls as why
use Rattle.explain_language.specs.Tells as language
use Rattle.lsp_session.specs.Sessions.{Streams, streams_of, IsServed}
use Rattle.lsp_session.specs.declared.end.SessionEnd.{SessionEnd}
use Rattle.lsp_session.specs.declared.end.SessionEnd.TheVariants as session
use Rattle.explain_why.specs.Outcome.{Outcome}
use Rattle.explain_top.specs.Shelves.{Shelf, KeepsFiles, LeavesFile, HasFile, FailsToLeave}
use Rattle.explain_top.specs.Sinks.{Sink, GainsNothing, Gains, GainsFront, Writes}
use Rattle.explain_top.specs.declared.status.Status.{Status}
use Rattle.explain_top.specs.declared.status.Status.TheVariants as s

abbrev pub code_of : Status → ℕ
code_of s.Done = 0
code_of s.Faulty = 1
code_of s.Refused = 2
code_of s.NotAnalysed = 3
code_of s.WriteFault = 12
code_of s.NoMemory = 70

abbrev pub status_of : Verdict → Status
status_of v.Typed = s.Done
status_of v.Faulty = s.Faulty
status_of v.Unread = s.Refused

abbrev pub status_for : Finding → Status
status_for f.Fits = s.Done
status_for f.Untyped = s.Faulty
status_for f.Refused = s.Refused

abbrev pub status_at : End → Status
status_at e.Told = s.Done
status_at e.Refused = s.Refused
status_at e.NotAnalysed = s.NotAnalysed

abbrev pub status_of_budget : BudgetEnd → Status
status_of_budget b.AllKept = s.Done
status_of_budget b.Broken = s.Faulty
status_of_budget b.Refused = s.Refused
status_of_budget b.NotAnalysed = s.NotAnalysed

abbrev pub status_of_verification : Verification → Status
status_of_verification o.Holds = s.Done
status_of_verification o.Fails = s.Faulty
status_of_verification o.Refused = s.Refused
status_of_verification o.NotAnalysed = s.NotAnalysed

-- the status of a program that an editor ends
abbrev pub status_by : ℕ → Status
status_by zero = s.Done
status_by (suc n) = s.Faulty

abbrev pub status_of_session : SessionEnd → Status
status_of_session (session.Exited status) = status_by status
status_of_session (session.Closed status) = status_by status
status_of_session (session.Faulty fault) = s.Refused
status_of_session session.ReadFault = s.Refused
status_of_session session.WriteFault = s.WriteFault
status_of_session session.NoMemory = s.NoMemory
status_of_session session.TooLong = s.Refused

-- a text is written to out, and the status is this one; or not as a whole, since out failed
abbrev pub Puts : Text → Sink → Status → Status → Type 0
Puts text out done status = ((status ≡ done) × Gains text out) ⊎ ((status ≡ s.WriteFault) × GainsFront text out)

-- memory ran out, and that is told
abbrev pub LacksMemory : Sink → Status → Type 0
LacksMemory err status = (status ≡ s.NoMemory) × Writes (codes "explain: out of memory\n") err

-- the worst of what is found in the files, with a report of it; or memory ran out
abbrev pub IsChecked : Store → List (Bor Text) → Sink → Status → Type 0
IsChecked store names err status =
    LacksMemory err status ⊎ ((verdict : Verdict) × (report : Text)
    × FilesAre store (texts names) verdict report × (status ≡ status_of verdict) × Writes report err)

-- what is found of the data for a function, with a report of it; or memory ran out
abbrev pub IsDataChecked : Store → Text → Text → Text → Sink → Status → Type 0
IsDataChecked store file name input err status =
    LacksMemory err status ⊎ ((finding : Finding) × (report : Text)
    × CallIs store file name input finding report × (status ≡ status_for finding) × Writes report err)

-- the width that the words tell, or that of the terminal that out goes to
abbrev pub width_or : Option ℕ → Option ℕ → Option ℕ
width_or (Some width) columns = Some width
width_or None columns = columns

-- what is told is written: a text to out, and a report of what is wrong to err, with the status of how the call ends; or memory ran out
abbrev pub Tells : {End : Type 0} → (End → Text → Text → Type 0) → (End → Status) → Sink → Sink → Status → Type 0
Tells {End} Is status_by out err status =
    (LacksMemory err status × GainsNothing out)
    ⊎ ((end : End) × (text : Text) × (report : Text) × Is end text report × Puts text out (status_by end) status × Writes report err)

-- the bounds of a program
abbrev pub AreBoundsTold : Store → BoundsWords → Option ℕ → Sink → Sink → Status → Type 0
AreBoundsTold store words columns out err status =
    Tells (calls.CallIs store words (width_or words.width columns)) status_at out err status

-- which of the bounds that a file declares a program keeps
abbrev pub IsBudgetTold : Store → Text → Text → Option ℕ → Bool → Option ℕ → Sink → Sink → Status → Type 0
IsBudgetTold store file bounds degree json columns out err status =
    Tells (budget.CallIs store (words_of file bounds degree columns json)) status_of_budget out err status

-- whether a certificate holds of a program
abbrev pub IsVerified : Store → Text → Text → Sink → Sink → Status → Type 0
IsVerified store file certificate out err status = Tells (verify.CallIs store file certificate) status_of_verification out err status

-- how often lines of a program are run at most
abbrev pub IsProfileTold : Store → ProfileWords → Sink → Sink → Status → Type 0
IsProfileTold store words out err status = Tells (profile.CallIs store words) status_at out err status

-- ---- a file of bounds that is left

-- it is said why a file is not left; or memory ran out
abbrev pub IsFileRefused : Text → Text → Sink → Status → Type 0
IsFileRefused name why err status = LacksMemory err status ⊎ ((status ≡ s.Refused) × Writes (error_line name why) err)

-- the file of bounds would be the source
abbrev pub IsSourceRefused : Text → Sink → Status → Type 0
IsSourceRefused bounds err status = IsFileRefused bounds (codes "is the source itself") err status

-- a text is left as this file; or there is one, which may not be written over; or it could not be written
abbrev pub IsTextLeft : Shelf → Text → Bool → Text → Status → Text → Type 0
IsTextLeft shelf bounds force text status part =
    (LeavesFile shelf bounds text force × (status ≡ s.Done) × (part ≡ []))
    ⊎ ((KeepsFiles shelf × HasFile shelf bounds force × (status ≡ s.Refused)
    × (part ≡ error_line bounds (codes "is there already; --force writes over it")))
    ⊎ (KeepsFiles shelf × FailsToLeave shelf × (status ≡ s.WriteFault) × (part ≡ error_line bounds (codes "cannot be written"))))

-- how the call ends by a draft
abbrev pub EndsBy : Shelf → Text → Bool → Draft → Status → Text → Type 0
EndsBy shelf bounds force (draft.Made degree text) status part = IsTextLeft shelf bounds force (string_bytes text) status part
EndsBy shelf bounds force draft.Refused status part = KeepsFiles shelf × (status ≡ s.Refused) × (part ≡ [])
EndsBy shelf bounds force draft.NotAnalysed status part = KeepsFiles shelf × (status ≡ s.NotAnalysed) × (part ≡ [])

-- The bounds of the program in a file are left as another file, or that is not done, and why is written to err; or memory ran out.
abbrev pub IsDraftLeft : Store → Shelf → Text → Text → Option ℕ → Bool → Sink → Status → Type 0
IsDraftLeft store shelf file bounds degree force err status =
    (LacksMemory err status × KeepsFiles shelf)
    ⊎ (((file ≡ bounds) × KeepsFiles shelf × IsSourceRefused bounds err status)
    ⊎ ((made : Draft) × (report : Text) × (part : Text) × DraftIs store file degree made report
    × EndsBy shelf bounds force made status part × Writes (report ++ part) err))

-- ---- why functions have no bounds

-- the source that the first change gives is left as the file that is named; or there is no change
abbrev pub LeavesWritten : Shelf → Written → Option Text → Status → Text → Type 0
LeavesWritten shelf written (Some text) status part = IsTextLeft shelf written.name.now written.force text status part
LeavesWritten shelf written None status part =
    KeepsFiles shelf × (status ≡ s.Refused)
    × (part ≡ error_line written.name.now (codes "is not written: no change was found that gives bounds"))

-- what is left by a call that ends so
abbrev pub LeavesChange : Shelf → Option Written → End → Option Text → Status → Text → Type 0
LeavesChange shelf (Some written) e.Told changed status part = LeavesWritten shelf written changed status part
LeavesChange shelf written end changed status part = KeepsFiles shelf × (status ≡ status_at end) × (part ≡ [])

-- it is told, and a file is left where the words name one
abbrev pub TellsWhy : Store → Shelf → WhyWords → Sink → Sink → Status → Type 0
TellsWhy store shelf words out err status =
    (told : Outcome) × (part : Text) × (done : Status) × why.CallIs store words told
    × LeavesChange shelf words.written told.end told.changed done part
    × Puts told.text out done status × Writes (told.report ++ part) err

-- the file that is to be written would be the source
abbrev pub NamesSource : WhyWords → Sink → Status → Type 0
NamesSource words err status =
    (written : Written) × (words.written ≡ Some written) × (written.name.now ≡ words.file.now) × IsSourceRefused written.name.now err status

abbrev pub IsWhyTold : Store → Shelf → WhyWords → Sink → Sink → Status → Type 0
IsWhyTold store shelf words out err status =
    (KeepsFiles shelf × GainsNothing out × (LacksMemory err status ⊎ NamesSource words err status))
    ⊎ TellsWhy store shelf words out err status

-- ---- pictures

-- the picture is left as the file that is named; or there is none
abbrev pub LeavesPicture : Shelf → PlotWords → End → Option Text → Status → Text → Type 0
LeavesPicture shelf words end (Some svg) status part = IsTextLeft shelf words.output.now words.force svg status part
LeavesPicture shelf words end None status part = KeepsFiles shelf × (status ≡ status_at end) × (part ≡ [])

-- it is drawn and told, and the picture is left
abbrev pub TellsPlot : Store → Shelf → PlotWords → Sink → Sink → Status → Type 0
TellsPlot store shelf words out err status =
    (told : plot.Outcome) × (part : Text) × (done : Status) × plot.CallIs store words told
    × LeavesPicture shelf words told.end told.picture done part
    × Puts told.text out done status × Writes (told.report ++ part) err

-- one of the names is this one
abbrev pub is_among : List Text → Text → Bool
is_among [] name = false
is_among (other ∷ names) name = bytes_eq other name || is_among names name

-- why the picture is not left as the file that is named: the call reads it
abbrev pub over_read : PlotWords → Option Text
over_read words =
    cond (bytes_eq words.output.now words.file.now) (Some (codes "is the source itself"))
    (cond (is_among (names_of words.arguments) words.output.now) (Some (codes "is a file of arguments itself")) None)

-- the picture would be a file that the call reads
abbrev pub DrawsOverRead : PlotWords → Sink → Status → Type 0
DrawsOverRead words err status =
    (why : Text) × (over_read words ≡ Some why) × IsFileRefused words.output.now why err status

abbrev pub IsPlotTold : Store → Shelf → PlotWords → Sink → Sink → Status → Type 0
IsPlotTold store shelf words out err status =
    (KeepsFiles shelf × GainsNothing out × (LacksMemory err status ⊎ DrawsOverRead words err status))
    ⊎ ((over_read words ≡ None) × TellsPlot store shelf words out err status)

-- ---- sessions with an editor

-- what is said of a session that the editor does not end
abbrev pub said_of : SessionEnd → Text
said_of (session.Faulty fault) = codes "explain: what the editor sends is no message\n"
said_of session.ReadFault = codes "explain: what the editor sends can't be read\n"
said_of session.NoMemory = codes "explain: out of memory\n"
said_of session.TooLong = codes "explain: the session is too long\n"
said_of cause = []

-- the status of a session, and where that is 0 that of its log
abbrev pub or_of_log : Status → Status → Status
or_of_log s.Done left = left
or_of_log status left = status

-- What a session ends with is told, and what was heard is left as a file; or memory ran out.
abbrev pub IsLogLeft : Shelf → Text → SessionEnd → Sink → Status → Type 0
IsLogLeft shelf log end err status =
    (LacksMemory err status × KeepsFiles shelf)
    ⊎ ((heard : Text) × (left : Status) × (part : Text) × IsTextLeft shelf log true heard left part
    × (status ≡ or_of_log (status_of_session end) left) × Writes (said_of end ++ part) err)

-- what is told of a session's end, and left of what was heard where a file for that is named
abbrev pub EndsSession : Shelf → Option (Bor Text) → SessionEnd → Sink → Status → Type 0
EndsSession shelf None end err status = KeepsFiles shelf × (status ≡ status_of_session end) × Writes (said_of end) err
EndsSession shelf (Some log) end err status = IsLogLeft shelf log.now end err status

-- An editor is served: what it is told of a text is the text's fault, or the bounds of its functions at degrees up to the one that is asked
-- for and why they have none, as far as analyses go with so many pivots; and of a line how often it is run.
abbrev pub IsEditorServed : LspWords → Shelf → Streams → Streams → Sink → Status → Type 0
IsEditorServed words shelf start last err status =
    (end : SessionEnd) × IsServed (language.told_by (min words.degree 4) words.pivots) start last end
    × EndsSession shelf words.log end err status

-- ---- requests

-- what an editor was still to send before the call, and after it, where that is told
pub record Editor : Type 0 where
  pub before : Option Text
  pub after : Option Text

abbrev pub editor_of : Option Text → Option Text → Editor
editor_of before after = record { before = before; after = after }

-- what a request asks for is done, where lines that go to out have at most so many columns; no others than these leave a file
abbrev pub IsAnswer : Store → Shelf → Editor → Request → Option ℕ → Sink → Sink → Status → Type 0
IsAnswer store shelf editor (Check names) columns out err status =
    IsChecked store names.items err status × GainsNothing out × KeepsFiles shelf
IsAnswer store shelf editor (CheckData file name input) columns out err status =
    IsDataChecked store file.now name.now input.now err status × GainsNothing out × KeepsFiles shelf
IsAnswer store shelf editor (Bounds words) columns out err status = AreBoundsTold store words columns out err status × KeepsFiles shelf
IsAnswer store shelf editor (Budget file bounds degree json) columns out err status =
    IsBudgetTold store file.now bounds.now degree json columns out err status × KeepsFiles shelf
IsAnswer store shelf editor (WriteBudget file bounds degree force) columns out err status =
    IsDraftLeft store shelf file.now bounds.now degree force err status × GainsNothing out
IsAnswer store shelf editor (Verify file certificate) columns out err status =
    IsVerified store file.now certificate.now out err status × KeepsFiles shelf
IsAnswer store shelf editor (Why words) columns out err status = IsWhyTold store shelf words out err status
IsAnswer store shelf editor (Plot words) columns out err status = IsPlotTold store shelf words out err status
IsAnswer store shelf editor (Profile words) columns out err status = IsProfileTold store words out err status × KeepsFiles shelf
IsAnswer store shelf editor (Lsp words) columns out err status =
    IsEditorServed words shelf (streams_of editor.before out.old) (streams_of editor.after out.new) err status

-- ---- whole calls

-- the words ask for something, and that is done
abbrev pub Answered : List Text → Option ℕ → Store → Shelf → Editor → Sink → Sink → Status → Type 0
Answered words columns store shelf editor out err status =
    (request : Request) × Asks words request × IsAnswer store shelf editor request columns out err status

-- the words ask for help or for the version, which is written to out, or not as a whole
abbrev pub Showed : List Text → Sink → Sink → Status → Type 0
Showed words out err status =
    AsksToShow words × GainsNothing err × ((text : Text) × Puts text out s.Done status)

-- the words ask for nothing, and that is told
abbrev pub RefusedWords : List Text → Sink → Sink → Status → Type 0
RefusedWords words out err status =
    AsksNothing words × (status ≡ s.Refused) × GainsNothing out × ((text : Text) × Writes text err)

-- why a call ends so, and what it writes
abbrev pub Cause : List Text → Option ℕ → Store → Shelf → Editor → Sink → Sink → Status → Type 0
Cause words columns store shelf editor out err status =
    Answered words columns store shelf editor out err status
    ⊎ (KeepsFiles shelf × ((LacksMemory err status × GainsNothing out) ⊎ (Showed words out err status ⊎ RefusedWords words out err status)))
