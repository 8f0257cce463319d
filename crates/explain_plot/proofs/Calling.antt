-- What is told of a source that is read, and of its program.
use Rattle.std.proofs.Common.{◌≡◌, ◌≤◌, ◌<◌, ◌++◌, ℕ, List, [], length, map, Option, Some, Result, Ok, Err, IfOk, sym, ap, subst, ◌∙◌, inl, inr, arith}
use Rattle.std.proofs.lemmas.List.{append-nil, length-map}
use Rattle.std.proofs.lemmas.Option.{slice_get_within}
use Rattle.std.specs.Prelude.{slice_get, slice_index_or}
use Rattle.raml_io.specs.Files.{Files}
use Rattle.raml_syntax.specs.Tree.{Text, Parameter, Function, Prog}
use Rattle.raml_syntax.specs.Types.{types_of}
use Rattle.raml_syntax.specs.Place.{place_of}
use Rattle.raml_syntax.specs.Read.{function_of, program_of, ty_of}
use Rattle.raml_syntax.specs.declared.program.Fun.{Fun}
use Rattle.raml_syntax.specs.declared.program.Program.{Program}
use Rattle.raml_syntax.specs.declared.ty.Ty.{Ty}
use Rattle.raml_syntax.proofs.Places.{functions_have_places}
use Rattle.simple_types.proofs.Placing.{each_at, read_at, some_at}
use Rattle.cost_free.specs.declared.task.Meter.{Meter}
use Rattle.explain_check.specs.Checks.{IsProgramOf, ProgramGives}
use Rattle.explain_check.specs.Stores.{store_of}
use Rattle.explain_check.specs.declared.program.Source.{Source}
use Rattle.explain_check.proofs.Longer.{Later}
use Rattle.explain_runs.specs.Measure.{CanRun}
use Rattle.explain_words.specs.Spelled.{lent}
use Rattle.explain_words.specs.declared.request.plot.Arguments.{Arguments}
use Rattle.explain_words.specs.declared.request.plot.PlotWords.{PlotWords}
use Rattle.explain_marks.specs.Marks.{Origin, OfSizes}
use Rattle.explain_marks.specs.declared.marks.Given.{Given}
use Rattle.explain_plot.specs.Calls.{Outcome, CallIs, FunctionBy, FunctionIs, IsDrawn, IsRefusal, ParameterBy, ParameterIs, ProgramIs}
use Rattle.explain_plot.specs.Files.{AreHeld, LacksFile, names_of}
use Rattle.explain_plot.specs.Read.{outcome_of}
use Rattle.explain_plot.specs.declared.call.Told.{Told}
use Rattle.explain_plot.proofs.Held.{held_since, lacks_since}

-- what is told by a call that appends to two texts
abbrev pub Tells : {E : Type 0} → (Outcome → Type 0) → Text → Text → Text → Text → Result Told E → Type 0
Tells Is old_text new_text old new result =
    IfOk result (λ told. (shown : Text) × (part : Text) × Is (outcome_of told shown part) × (new_text ≡ old_text ++ shown) × (new ≡ old ++ part))

-- the same by another definition, and behind a text with which nothing was told
pub tells_more : {E : Type 0} (Is More : Outcome → Type 0) (old_text new_text old read new : Text) (result : Result Told E) → ((told : Outcome) → Is told → More told) → read ≡ old →
    Tells Is old_text new_text read new result → Tells More old_text new_text old new result
tells_more Is More old_text new_text old read new (Ok told) turn same tells =
    (tells.0, tells.1, turn (outcome_of told tells.0 tells.1) tells.2, tells.3, tells.4 ∙ ap (λ text. text ++ tells.1) same)
tells_more Is More old_text new_text old read new (Err x) turn same tells = tt

-- a call that is refused
pub tells_refused : (Is : Outcome → Type 0) (told : Told) (text old new part : Text) → ((report : Text) → IsRefusal (outcome_of told [] report) report) →
    ((outcome : Outcome) → IsRefusal outcome part → Is outcome) → new ≡ old ++ part →
    (shown : Text) × (more : Text) × Is (outcome_of told shown more) × (text ≡ text ++ shown) × (new ≡ old ++ more)
tells_refused Is told text old new part refused turn is = ([], part, turn (outcome_of told [] part) (refused part), sym (append-nil text), is)

-- ---- a source that is read, and files behind it

module _ (holds same : Option Files) (before mid after : Text → ℕ) (kept : same ≡ holds) (early : Later before mid) (words : PlotWords) (source : Source) (first old read : Text)
    (gives : ProgramGives (store_of holds before mid) words.file.now (Some source) first) (once : read ≡ old ++ first) where
  nothing_said : read ≡ old
  nothing_said = once ∙ ap (λ part. old ++ part) gives.3 ∙ append-nil old

  -- one of the files is not read
  pub of_lacking : (told : Told) (text new part : Text) → ((report : Text) → IsRefusal (outcome_of told [] report) report) →
      LacksFile (store_of same mid after) (names_of words.arguments) part → new ≡ read ++ part →
      (shown : Text) × (more : Text) × CallIs (store_of holds before after) words (outcome_of told shown more) × (text ≡ text ++ shown) × (new ≡ old ++ more)
  of_lacking told text new part refused lacks is =
      let lacking = lacks_since holds same before mid after kept early (names_of words.arguments) part lacks in
      tells_refused (CallIs (store_of holds before after) words) told text old new part refused
      (λ outcome is. inr (program_of source.typed, (source.bytes.items, gives.0, gives.2), inl (part, lacking, is)))
      (is ∙ ap (λ text. text ++ part) nothing_said)

  -- they are, and it is told of the program
  pub of_program : {E : Type 0} (files : List Given) (second old_text new_text seen new : Text) (result : Result Told E) →
      AreHeld (store_of same mid after) (names_of words.arguments) files → second ≡ [] → seen ≡ read ++ second →
      Tells (ProgramIs (program_of source.typed) words files) old_text new_text seen new result →
      Tells (CallIs (store_of holds before after) words) old_text new_text old new result
  of_program files second old_text new_text seen new result held none is told =
      let all = held_since holds same before mid after kept (names_of words.arguments) files held in
      tells_more (ProgramIs (program_of source.typed) words files) (CallIs (store_of holds before after) words) old_text new_text old seen new result
      (λ outcome is. inr (program_of source.typed, (source.bytes.items, gives.0, gives.2), inr (files, all, is)))
      (is ∙ ap (λ part. read ++ part) none ∙ append-nil read ∙ nothing_said) told

-- a program of a source that is not too long can be run
pub can_run : (source : Text) (P : Prog) → IsProgramOf source P → length source ≤ 1048576 → CanRun P
can_run source P is few = record {
  few_nodes = omega (arith, is.few_nodes, few);
  parameters = is.parameters;
  few_parameters = is.limits.parameters;
}

-- a function that is found stands within the program
pub found_within : (name : Text) (P : Prog) (f : ℕ) → place_of name P ≡ Some f → f < length P
found_within name P f there = let at = (functions_have_places P).placed name f there in slice_get_within P f at.0 at.1

-- what is read where a place was found is the function there
pub function_there : (typed program : Program) (name : Text) (f : ℕ) (item : Fun) → program ≡ typed → place_of name (program_of typed) ≡ Some f →
    item ≡ slice_index_or program.funs.items f item → slice_get (program_of typed) f ≡ Some (function_of item)
function_there typed program name f item same there read =
    let P = program_of typed in
    let is = some_at P f (found_within name P f there) in
    is.1 ∙ ap Some (sym (read_at program P f item is.0 (ap program_of same) read is.1))

-- a place that is found is one of the code's functions
pub found_among : (typed program : Program) (name : Text) (f : ℕ) → program ≡ typed → place_of name (program_of typed) ≡ Some f → f < length program.funs.items
found_among typed program name f same there =
    let below = found_within name (program_of typed) f there in
    let count = ap (λ (p : Program). length p.funs.items) same in
    omega (arith, below, count, length-map typed.funs.items function_of)

-- a function of a program has few parameters
pub few_types : (source : Text) (P : Prog) (f : ℕ) (g : Function) (types : List Ty) → IsProgramOf source P → slice_get P f ≡ Some g → map ty_of types ≡ types_of g →
    (1 ≤ length types) × (length types ≤ 8)
few_types source P f g types is there same =
    let long = sym (length-map types ty_of) ∙ ap length same ∙ length-map g.params (λ (p : Parameter). p.type) in
    let some = each_at (λ (h : Function). 1 ≤ length h.params) P f g is.parameters there in
    let few = each_at (λ (h : Function). length h.params ≤ 8) P f g is.limits.parameters there in
    (omega (arith, long, some), omega (arith, long, few))

-- ---- what is told of a function

-- by the arguments that the words name
pub of_arguments : {E : Type 0} (P : Prog) (f : ℕ) (words : PlotWords) (files : List Given) (arguments : Arguments) (old_text new_text old new : Text) (result : Result Told E) →
    words.arguments ≡ arguments → Tells (FunctionBy arguments P f words files) old_text new_text old new result → Tells (FunctionIs P f words files) old_text new_text old new result
of_arguments P f words files arguments old_text new_text old new result is tells =
    subst (λ (arguments : Arguments). Tells (FunctionBy arguments P f words files) old_text new_text old new result) (sym is) tells

-- by the parameter that they name
pub of_parameter : {E : Type 0} (P : Prog) (f : ℕ) (words : PlotWords) (name : Option Text) (old_text new_text old new : Text) (result : Result Told E) →
    lent words.parameter ≡ name → Tells (ParameterBy name P f words) old_text new_text old new result → Tells (ParameterIs P f words) old_text new_text old new result
of_parameter P f words name old_text new_text old new result is tells =
    subst (λ (name : Option Text). Tells (ParameterBy name P f words) old_text new_text old new result) (sym is) tells

-- what is drawn of made runs
pub of_made : {E : Type 0} (P : Prog) (f most : ℕ) (meter : Meter) (origin : Origin) (old_text new_text old new : Text) (result : Result Told E) → origin ≡ OfSizes →
    Tells (IsDrawn P f most meter origin) old_text new_text old new result → Tells (IsDrawn P f most meter OfSizes) old_text new_text old new result
of_made P f most meter origin old_text new_text old new result is tells =
    subst (λ (origin : Origin). Tells (IsDrawn P f most meter origin) old_text new_text old new result) is tells

-- what is drawn of a meter
pub of_meter : {E : Type 0} (P : Prog) (f most : ℕ) (meter other : Meter) (origin : Origin) (old_text new_text old new : Text) (result : Result Told E) → meter ≡ other →
    Tells (IsDrawn P f most meter origin) old_text new_text old new result → Tells (IsDrawn P f most other origin) old_text new_text old new result
of_meter P f most meter other origin old_text new_text old new result is tells =
    subst (λ (meter : Meter). Tells (IsDrawn P f most meter origin) old_text new_text old new result) is tells

-- a call that says why it is refused
pub refused_so : {E : Type 0} (Is : Outcome → Type 0) (text old new part : Text) (result : Result Told E) → ((outcome : Outcome) → IsRefusal outcome part → Is outcome) →
    IfOk result (λ told. IsRefusal (outcome_of told [] part) part) → IfOk result (λ told. new ≡ old ++ part) → Tells Is text text old new result
refused_so Is text old new part (Ok told) turn refused is = ([], part, turn (outcome_of told [] part) refused, sym (append-nil text), is)
refused_so Is text old new part (Err x) turn refused is = tt
