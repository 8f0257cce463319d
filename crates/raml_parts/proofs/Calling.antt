-- Functions that are called, and their arguments.
use Rattle.std.proofs.Common.{◌≡◌, ◌≤◌, ◌<◌, ◌+◌, ◌^◌, length, ℕ, List, Some, None, Result, Ok, Err, refl, sym, ap, subst, ◌∙◌, arith}
use Rattle.std.proofs.lemmas.List.{length-append}
use Rattle.std.specs.Prelude.{slice_get}
use Rattle.raml_syntax.specs.Tree.{Text, Function, Prog}
use Rattle.raml_syntax.specs.Value.{Value}
use Rattle.raml_syntax.specs.Types.{types_of}
use Rattle.raml_syntax.specs.Place.{place_of}
use Rattle.value_text.specs.Reading.{Answers, AreRead, most_cells}
use Rattle.value_text.specs.declared.word.Word.{Word}
use Rattle.value_text.specs.declared.word.Cell.{Cell}
use Rattle.refusal_text.specs.declared.plain.Which.TheVariants as w
use Rattle.refusals.specs.Ending.{NoFunction}
use Rattle.refusals.specs.Line.{no_names}
use Rattle.refusals.specs.declared.answer.Report.{Report}
use Rattle.refusals.specs.declared.answer.Refusal.{Refusal as TheRefusal}
use Rattle.raml_promise.specs.Outside.{Sound, Store}
use Rattle.raml_promise.specs.Steps.{Answer, refused, goes_on}
use Rattle.raml_promise.specs.Call.{Placed, IsNamed, DataRefuses, OfArguments, OfCall}
use Rattle.raml_parts.specs.Parts.{Gives, Refuses, HasArguments, ReadsArguments, ArgumentsRefuse, ReadsCall, IsCallOf, CallRefuses, IsShort, FileRefuses}
use Rattle.raml_parts.specs.declared.call.Arguments.{Arguments}
use Rattle.raml_parts.specs.declared.call.Call.{Call}
use Rattle.raml_parts.proofs.Stepping.{step_refused, step_goes, refuses_map, by_file, by_bytes, call_goes}

-- one function stands at a place
one_at : (P : Prog) (place : ℕ) (f : Placed) (fun : Function) → f.0 ≡ place → slice_get P f.0 ≡ Some f.1 → slice_get P place ≡ Some fun → f ≡ (place, fun)
one_at P place f fun same there here =
    let moved : slice_get P place ≡ Some f.1 = subst (λ k. slice_get P k ≡ Some f.1) same there in
    let one : f.1 ≡ fun = cc in
    λ i. (same i, one i)

-- the arguments that were read are the function's
module _ (P : Prog) (place : ℕ) (bytes : List ℕ) (f : Placed) (same : f.0 ≡ place) (there : slice_get P f.0 ≡ Some f.1) where
  pub arguments_give : (args : Arguments) (reads : ReadsArguments P place bytes args) (Rest : List Value → Answer → Type 0) (r : Result Report TheRefusal) →
      (HasArguments P f args.heap.cells args.words.items reads.values → Gives (Rest reads.values) r) → Gives (OfArguments bytes f.1 Rest) r
  arguments_give args reads Rest r given =
      let one = one_at P place f reads.fun same there reads.arguments.there in
      let has = subst (λ g. HasArguments P g args.heap.cells args.words.items reads.values) (sym one) reads.arguments in
      let spelled = subst (λ (g : Placed). Answers bytes (types_of g.1) (Ok reads.values)) (sym one) reads.spelled in
      step_goes no_names (DataRefuses bytes f.1) (λ args. Answers bytes (types_of f.1) (Ok args)) Rest reads.values spelled r (given has)

  pub arguments_refuse : (Rest : List Value → Answer → Type 0) (refusal : TheRefusal) → Refuses no_names (ArgumentsRefuse P place bytes) refusal → Gives (OfArguments bytes f.1 Rest) (Err refusal)
  arguments_refuse Rest refusal h =
      step_refused no_names (DataRefuses bytes f.1) (λ args. Answers bytes (types_of f.1) (Ok args)) Rest refusal
      (refuses_map no_names (ArgumentsRefuse P place bytes) (DataRefuses bytes f.1) (λ e r. subst (λ (g : Placed). DataRefuses bytes g.1 e) (sym (one_at P place f r.fun same there r.there)) r.refuses) refusal h)

-- what is read of data are arguments
pub read_arguments : (P : Prog) (place : ℕ) (fun : Function) (bytes : List ℕ) (cells new : List Cell) (words : List Word) → slice_get P place ≡ Some fun →
    (read : AreRead cells new bytes (types_of fun) words) → length cells ≡ 0 → HasArguments P (place, fun) new words read.values
read_arguments P place fun bytes cells new words there read empty = record {
  there = there;
  stand = read.stand;
  types = read.spelled.spelled.typed;
  few_cells = few;
  small = subst (λ n. n ≤ most_cells) read.count read.few;
}
  where
    long : length new ≡ length cells + length read.more
    long = ap length read.grows ∙ length-append cells read.more

    few : length new < 2 ^ 31
    few = omega (arith, long, empty, read.few)

-- a call that was read
module _ (store : Store) (P : Prog) (name file : Text) where
  pub call_of : (call : Call) → (reads : ReadsCall store P name file call) → (f : Placed) × (vs : List Value) × IsCallOf P f call vs
  call_of call reads = ((call.place.0, reads.reads.fun), reads.reads.values, record { place = refl; arguments = reads.reads.arguments })

  pub call_gives : (call : Call) (reads : ReadsCall store P name file call) (Rest : Placed → List Value → Answer → Type 0) (r : Result Report TheRefusal) →
      ((f : Placed) (vs : List Value) → IsCallOf P f call vs → Gives (Rest f vs) r) → Gives (OfCall Sound store P name file Rest) r
  call_gives call reads Rest r given =
      let a = reads.reads in
      call_goes store P name file Rest (call.place.0, a.fun) a.values reads.bytes (record { place = reads.place; there = a.arguments.there }) reads.within a.spelled r
      (given (call.place.0, a.fun) a.values (record { place = refl; arguments = a.arguments }))

  pub nameless : place_of name P ≡ None → CallRefuses store P name file NoFunction
  nameless none = refused NoFunction (refl, none) refl

  -- the file is refused, or its bytes
  pub file_refuses : (f : Placed) → IsNamed P name f → (refusal : TheRefusal) → Refuses no_names (FileRefuses store w.Data file) refusal → Refuses no_names (CallRefuses store P name file) refusal
  file_refuses f named refusal h = refuses_map no_names (FileRefuses store w.Data file) (CallRefuses store P name file) (λ e r. goes_on f named (by_file store w.Data file (λ bytes. DataRefuses bytes f.1) (λ bytes args. Answers bytes (types_of f.1) (Ok args)) e r)) refusal h

  pub data_refuses_call : (f : Placed) → IsNamed P name f → (bytes : List ℕ) → IsShort store w.Data file bytes → (refusal : TheRefusal) →
      Refuses no_names (ArgumentsRefuse P f.0 bytes) refusal → Refuses no_names (CallRefuses store P name file) refusal
  data_refuses_call f named bytes short refusal h =
      refuses_map no_names (ArgumentsRefuse P f.0 bytes) (CallRefuses store P name file)
      (λ e r. goes_on f named (by_bytes store w.Data file (λ bytes. DataRefuses bytes f.1) (λ bytes args. Answers bytes (types_of f.1) (Ok args)) bytes short e
      (subst (λ (g : Placed). DataRefuses bytes g.1 e) (sym (one_at P f.0 f r.fun refl named.there r.there)) r.refuses))) refusal h
