-- What is told of files that are read.
use Rattle.std.proofs.Common.{◌≡◌, ◌≤◌, ℕ, ◌++◌, Option, Some, Result, Ok, Err, IfOk, ap, subst, ◌∙◌, inl, inr}
use Rattle.std.proofs.lemmas.List.{append-nil}
use Rattle.raml_io.specs.Files.{Files}
use Rattle.raml_syntax.specs.Tree.{Text, Prog}
use Rattle.raml_syntax.specs.Read.{program_of}
use Rattle.explain_check.specs.Checks.{ProgramGives, most_bytes}
use Rattle.explain_check.specs.Stores.{Store, store_of, FileGives}
use Rattle.explain_check.specs.declared.program.Source.{Source}
use Rattle.explain_check.proofs.Longer.{unread_since}
use Rattle.explain_budget.specs.Calls.{Words, asking_of, ProgramIs, BoundsAre, CallIs}
use Rattle.explain_budget.specs.Degrees.{Asking}
use Rattle.explain_budget.specs.declared.end.BudgetEnd.{BudgetEnd}

-- what is told by a call that appends to two texts
abbrev Tells : {E : Type 0} → (BudgetEnd → Text → Text → Type 0) → Text → Text → Text → Text → Result BudgetEnd E → Type 0
Tells Is old_text new_text old new result =
    IfOk result (λ end. (shown : Text) × (part : Text) × Is end shown part × (new_text ≡ old_text ++ shown) × (new ≡ old ++ part))

-- of a program, where the file of bounds has these bytes
pub of_bytes : {E : Type 0} (store : Store) (P : Prog) (bounds : Text) (degree : Option ℕ) (asking : Text → Asking) (bytes seen : Text) (first old_text new_text old read new : Text) (result : Result BudgetEnd E) →
    FileGives store most_bytes bounds (Some bytes) first → read ≡ old ++ first → seen ≡ bytes →
    Tells (ProgramIs P degree (asking seen)) old_text new_text read new result → Tells (BoundsAre store P bounds degree asking) old_text new_text old new result
of_bytes store P bounds degree asking bytes seen first old_text new_text old read new (Ok end) gives before e told =
    let once : read ≡ old = before ∙ ap (λ part. old ++ part) gives.2 ∙ append-nil old in
    let here = subst (λ bytes. ProgramIs P degree (asking bytes) end told.0 told.1) e told.2 in
    (told.0, told.1, inr (bytes, gives.0, gives.1, here), told.3, told.4 ∙ ap (λ text. text ++ told.1) once)
of_bytes store P bounds degree asking bytes seen first old_text new_text old read new (Err x) gives before e told = tt

module _ (holds same : Option Files) (before mid after : Text → ℕ) (e : same ≡ holds) (early : (name : Text) → before name ≤ mid name) where
  since : (P : Prog) (bounds : Text) (degree : Option ℕ) (asking : Text → Asking) (end : BudgetEnd) (text part : Text) →
      BoundsAre (store_of same mid after) P bounds degree asking end text part → BoundsAre (store_of holds before after) P bounds degree asking end text part
  since P bounds degree asking end text part (inl not) = inl (not.0, not.1, unread_since holds same before mid after most_bytes bounds part e early not.2)
  since P bounds degree asking end text part (inr told) = subst (λ holds. BoundsAre (store_of holds before after) P bounds degree asking end text part) e (inr told)

  -- of a call, for the program of its source
  pub of_call : {E : Type 0} (words : Words) (source : Source) (first old_text new_text old read new : Text) (result : Result BudgetEnd E) →
      ProgramGives (store_of holds before mid) words.file (Some source) first → read ≡ old ++ first →
      Tells (BoundsAre (store_of same mid after) (program_of source.typed) words.bounds words.degree (asking_of words)) old_text new_text read new result →
      Tells (CallIs (store_of holds before after) words) old_text new_text old new result
  of_call words source first old_text new_text old read new (Ok end) gives before told =
      let P = program_of source.typed in
      let once : read ≡ old = before ∙ ap (λ part. old ++ part) gives.3 ∙ append-nil old in
      let here = since P words.bounds words.degree (asking_of words) end told.0 told.1 told.2 in
      (told.0, told.1, inr (P, (source.bytes.items, gives.0, gives.2), here), told.3, told.4 ∙ ap (λ text. text ++ told.1) once)
  of_call words source first old_text new_text old read new (Err x) gives before told = tt
