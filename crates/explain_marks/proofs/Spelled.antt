-- Data that is read for the bound at the arguments that it spells.
use Rattle.std.proofs.Common.{◌≡◌, ◌+◌, ℕ, List, [], ◌∷◌, Option, None, Result, Ok, Err, IfOk, refl, sym, ap, subst, arith}
use Rattle.raml_syntax.specs.Tree.{Text, Type', Prog}
use Rattle.raml_syntax.specs.Value.{Value, size}
use Rattle.base_poly.specs.Base.{total}
use Rattle.cost_free.specs.declared.task.Meter.{Meter}
use Rattle.annot_types.specs.Program.{Program}
use Rattle.annot_types.specs.Certificate.{Certificate}
use Rattle.value_text.specs.declared.word.Word.{Word}
use Rattle.value_text.specs.declared.word.Cell.{Cell}
use Rattle.value_text.specs.Reading.{Answers, AreRead, HasOneAnswer}
use Rattle.value_text.specs.Spelling.{sizes}
use Rattle.value_text.specs.Stands.{StandForAll}
use Rattle.poly_point.specs.Point.{AreArguments}
use Rattle.explain_runs.proofs.Reading.{are_spelled}
use Rattle.explain_marks.specs.Marks.{AreReadAs}
use Rattle.explain_marks.specs.declared.reading.Reading.{Reading}

all_sizes : (values : List Value) → total size values ≡ sizes values
all_sizes [] = refl
all_sizes (v ∷ vs) = ap (λ n. size v + n) (all_sizes vs)

-- what was read are arguments of few cells
pub arguments_read : (cells new : List Cell) (data' : Text) (types : List Type') (words : List Word) → AreRead cells new data' types words → AreArguments new words
arguments_read cells new data' types words read = record {
  values = read.values;
  stand = read.stand;
  small = omega (arith, all_sizes read.values, read.count, read.few);
}

-- arguments are the answer that the data has
ok_injective : {E : Type 0} (r s : Result (List Value) E) (xs ys : List Value) → r ≡ s → r ≡ Ok xs → s ≡ Ok ys → xs ≡ ys
ok_injective r s xs ys e f g = cc

pub only_read : (cells new : List Cell) (data' : Text) (types : List Type') (words : List Word) (args : List Value) → (read : AreRead cells new data' types words) →
    HasOneAnswer data' types → Answers data' types (Ok args) → StandForAll new words args
only_read cells new data' types words args read one spelled =
    let same : read.values ≡ args = ok_injective _ _ read.values args (one (Ok read.values) (Ok args) (are_spelled types data' cells new words read) spelled) refl refl in
    subst (StandForAll new words) same read.stand

-- nothing that is read is fit
pub none_fit : {E : Type 0} (r : Result (Option Reading) E) (P : Prog) (N : Program) (c : Certificate) (f : ℕ) (meter : Meter) (place : ℕ) (args : List Value) →
    IfOk r (λ read. read ≡ None) → IfOk r (AreReadAs P N c f meter place args)
none_fit (Ok read) P N c f meter place args is = subst (AreReadAs P N c f meter place args) (sym is) tt
none_fit (Err e) P N c f meter place args is = tt
