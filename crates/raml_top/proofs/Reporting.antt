-- Reports of runs, with what stands around them.
use Rattle.std.proofs.Common.{◌≡◌, ◌++◌, ℕ, List, [], ◌∷◌, Result, Ok, Err, refl, sym, ap, ◌∙◌, inl}
use Rattle.std.specs.Prelude.{IfOk, IfErr}
use Rattle.raml_syntax.specs.Tree.{Text, Prog}
use Rattle.raml_syntax.specs.Value.{Value}
use Rattle.value_text.specs.declared.word.Word.{Word}
use Rattle.value_text.specs.declared.word.Cell.{Cell}
use Rattle.refusals.specs.Ending.{ending_of}
use Rattle.refusals.specs.Refusals.{IsWanting}
use Rattle.refusals.specs.declared.answer.Report.{Report}
use Rattle.refusals.specs.declared.answer.Refusal.{Refusal}
use Rattle.raml_promise.specs.Outside.{Sound}
use Rattle.raml_promise.specs.Call.{Placed, Limits, Runs}
use Rattle.raml_parts.specs.Parts.{Gives, HasArguments, RanOn}

append_nil : (t : Text) → t ++ [] ≡ t
append_nil [] = refl
append_nil (x ∷ t) = ap (λ u. x ∷ u) (append_nil t)

module _ (P : Prog) (place : ℕ) (cells : List Cell) (words : List Word) (limits : Limits) (ran : Report) (told : RanOn P place cells words limits ran.status ran.text.items) where
  -- the run alone
  pub run_gives : (f : Placed) (args : List Value) → f.0 ≡ place → HasArguments P f cells words args → Gives (Runs Sound P f args limits [] []) (Ok ran)
  run_gives f args same h =
      let t = told f args same h in
      (t.0, t.1, record { ending = t.0; text = ran.text.items; ends = t.2; whole = ran.text.items; is = refl; around = sym (append_nil ran.text.items) })

  -- between two texts
  pub around_gives : (r : Result Report Refusal) (front behind : Text) → IfOk r (λ made. made.text.items ≡ front ++ ran.text.items ++ behind) → IfOk r (λ made. made.status ≡ ran.status) → IfErr r IsWanting →
      (f : Placed) (args : List Value) → f.0 ≡ place → HasArguments P f cells words args → Gives (Runs Sound P f args limits front behind) r
  around_gives (Ok made) front behind text status err f args same h =
      let t = told f args same h in
      (t.0, ap ending_of status ∙ t.1, record { ending = t.0; text = ran.text.items; ends = t.2; whole = made.text.items; is = refl; around = text })
  around_gives (Err refusal) front behind text status err f args same h = inl err

  pub behind_gives : (r : Result Report Refusal) (behind : Text) → IfOk r (λ made. made.text.items ≡ ran.text.items ++ behind) → IfOk r (λ made. made.status ≡ ran.status) → IfErr r IsWanting →
      (f : Placed) (args : List Value) → f.0 ≡ place → HasArguments P f cells words args → Gives (Runs Sound P f args limits [] behind) r
  behind_gives r behind text status err = around_gives r [] behind text status err

  pub front_gives : (r : Result Report Refusal) (front : Text) → IfOk r (λ made. made.text.items ≡ front ++ ran.text.items) → IfOk r (λ made. made.status ≡ ran.status) → IfErr r IsWanting →
      (f : Placed) (args : List Value) → f.0 ≡ place → HasArguments P f cells words args → Gives (Runs Sound P f args limits front []) r
  front_gives (Ok made) front text status err = around_gives (Ok made) front [] (text ∙ sym (append_nil (front ++ ran.text.items))) status err
  front_gives (Err refusal) front text status err = around_gives (Err refusal) front [] text status err

pub with_front : (r : Result Report Refusal) (front other : Text) (ran : Report) → other ≡ front → IfOk r (λ made. made.text.items ≡ other ++ ran.text.items) → IfOk r (λ made. made.text.items ≡ front ++ ran.text.items)
with_front (Ok made) front other ran same h = h ∙ ap (λ t. t ++ ran.text.items) same
with_front (Err refusal) front other ran same h = tt

pub ran_gives : (P : Prog) (place : ℕ) (cells : List Cell) (words : List Word) (limits : Limits) (r : Result Report Refusal) → IfOk r (λ ran. RanOn P place cells words limits ran.status ran.text.items) → IfErr r IsWanting →
    (f : Placed) (args : List Value) → f.0 ≡ place → HasArguments P f cells words args → Gives (Runs Sound P f args limits [] []) r
ran_gives P place cells words limits (Ok ran) told wanting f args same h = run_gives P place cells words limits ran told f args same h
ran_gives P place cells words limits (Err refusal) told wanting f args same h = inl wanting
