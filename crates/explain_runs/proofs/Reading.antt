-- Data that is read, and data that is refused.
use Rattle.std.proofs.Common.{◌≡◌, ◌≤◌, ◌<◌, ◌+◌, ◌^◌, length, ℕ, List, Option, Some, None, Result, Ok, Err, refl, sym, ap, subst, ◌∙◌, arith}
use Rattle.std.proofs.lemmas.List.{length-append}
use Rattle.std.specs.Prelude.{slice_get, IfOk}
use Rattle.raml_syntax.specs.Tree.{Text, Type', Function, Prog}
use Rattle.raml_syntax.specs.Value.{Value}
use Rattle.raml_syntax.specs.Types.{types_of}
use Rattle.value_text.specs.Reading.{Answers, AreRead, FirstFault, HasOneAnswer, most_cells}
use Rattle.value_text.specs.declared.word.Word.{Word}
use Rattle.value_text.specs.declared.word.Cell.{Cell}
use Rattle.value_text.specs.declared.fault.DataFault.{DataFault}
use Rattle.value_text.specs.declared.fault.DataFault.TheVariants as d
use Rattle.explain_runs.specs.declared.outcome.Limits.{Limits}
use Rattle.explain_runs.specs.declared.outcome.Measured.{Measured}
use Rattle.explain_runs.specs.Measure.{HasArguments, IsMeasure, SpellsNone, most_data}
use Rattle.explain_runs.specs.Told.{IsRefusal, IsNone, IsRunOn}

-- one function alone stands at a place
one_at : (P : Prog) (k : ℕ) (f g : Function) → slice_get P k ≡ Some f → slice_get P k ≡ Some g → f ≡ g
one_at P k f g here there = cc

-- what is read of data are arguments
pub read_arguments : (P : Prog) (f : ℕ) (g : Function) (data' : Text) (cells new : List Cell) (words : List Word) → slice_get P f ≡ Some g →
    (read : AreRead cells new data' (types_of g) words) → length cells ≡ 0 → HasArguments P f new words g read.values
read_arguments P f g data' cells new words there read empty = record {
  there = there;
  stand = read.stand;
  types = read.spelled.spelled.typed;
  few_cells = few;
}
  where
    long : length new ≡ length cells + length read.more
    long = ap length read.grows ∙ length-append cells read.more

    few : length new < 2 ^ 31
    few = let small : length read.more ≤ 1048576 = read.few in omega (arith, long, empty, small)

-- and they are what it spells
pub are_spelled : (types : List Type') (data' : Text) (cells new : List Cell) (words : List Word) → (read : AreRead cells new data' types words) → Answers data' types (Ok read.values)
are_spelled types data' cells new words read = (read.spelled, subst (λ n. n ≤ most_cells) read.count read.few)

-- stated apart, where no facts stand beside it
ok_is_no_err : (xs : List Value) (fault : DataFault) → Ok xs ≡ Err fault → ⊥
ok_is_no_err xs fault e = cc

-- data that is refused spells none
pub none_spelled : (data' : Text) (types : List Type') (fault : DataFault) → IsRefusal fault → FirstFault data' types fault → HasOneAnswer data' types → (args : List Value) → Answers data' types (Ok args) → ⊥
none_spelled data' types (d.NotUtf8 at) refused first one args spelled = absurd (ok_is_no_err args (d.NotUtf8 at) (one (Ok args) (Err (d.NotUtf8 at)) spelled first))
none_spelled data' types (d.Shape at) refused first one args spelled = absurd (ok_is_no_err args (d.Shape at) (one (Ok args) (Err (d.Shape at)) spelled first))
none_spelled data' types (d.TooDeep at) refused first one args spelled = absurd (ok_is_no_err args (d.TooDeep at) (one (Ok args) (Err (d.TooDeep at)) spelled first))
none_spelled data' types d.TooManyCells refused first one args spelled = absurd (ok_is_no_err args d.TooManyCells (one (Ok args) (Err d.TooManyCells) spelled first))
none_spelled data' types d.NoMemory refused first one args spelled = absurd refused

-- nothing is measured where the data is refused
pub none_measured : {E : Type 0} (r : Result (Option Measured) E) (P : Prog) (f : ℕ) (g : Function) (data' : Text) (limits : Limits) (fault : DataFault) → slice_get P f ≡ Some g →
    FirstFault data' (types_of g) fault → HasOneAnswer data' (types_of g) → IfOk r (IsNone fault) → IfOk r (IsMeasure P f data' limits)
none_measured (Ok None) P f g data' limits fault there first one refused = λ h args here short spelled.
    none_spelled data' (types_of g) fault refused first one args (subst (λ (k : Function). Answers data' (types_of k) (Ok args)) (one_at P f h g here there) spelled)
none_measured (Ok (Some m)) P f g data' limits fault there first one refused = absurd refused
none_measured (Err e) P f g data' limits fault there first one refused = tt

-- what is measured on the words is measured on the data
pub run_measured : {E : Type 0} (r : Result (Option Measured) E) (P : Prog) (f : ℕ) (g : Function) (data' : Text) (limits : Limits) (cells new : List Cell) (words : List Word) →
    slice_get P f ≡ Some g → AreRead cells new data' (types_of g) words → length cells ≡ 0 → IfOk r (IsRunOn P f new words limits) → IfOk r (IsMeasure P f data' limits)
run_measured (Ok None) P f g data' limits cells new words there read empty on = absurd on
run_measured (Ok (Some m)) P f g data' limits cells new words there read empty on = record {
  function = g;
  there = there;
  args = read.values;
  spelled = are_spelled (types_of g) data' cells new words read;
  measured = on g read.values (read_arguments P f g data' cells new words there read empty);
}
run_measured (Err e) P f g data' limits cells new words there read empty on = tt

-- data that is too long is not read
pub too_long : (P : Prog) (f : ℕ) (data' : Text) → most_data < length data' → SpellsNone P f data'
too_long P f data' long g args there short spelled = absurd (omega (arith, long, short))
