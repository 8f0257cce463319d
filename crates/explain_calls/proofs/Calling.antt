-- What is told of a source that is read.
use Rattle.std.proofs.Common.{◌≡◌, ℕ, ◌++◌, Option, Some, None, Result, Ok, Err, IfOk, refl, ap, ◌∙◌, inl, inr}
use Rattle.std.proofs.lemmas.List.{append-nil}
use Rattle.raml_syntax.specs.Tree.{Text}
use Rattle.raml_syntax.specs.Read.{program_of}
use Rattle.explain_check.specs.Checks.{LacksProgram, ProgramGives}
use Rattle.explain_check.specs.declared.program.Source.{Source}
use Rattle.explain_check.specs.Stores.{Store}
use Rattle.explain_words.specs.declared.request.bounds.BoundsWords.{BoundsWords}
use Rattle.explain_calls.specs.Calls.{CallIs, ProgramIs}
use Rattle.explain_calls.specs.declared.end.End.{End}

-- a file that holds no program
pub lacking : (store : Store) (file : Text) (found : Option Source) (part : Text) → ((x : Source) → found ≡ Some x → ⊥) →
    ProgramGives store file found part → LacksProgram store file part
lacking store file None part none gives = gives
lacking store file (Some x) part none gives = absurd (none x refl)

-- one that holds a program, of which something is told
pub told_of : (store : Store) (words : BoundsWords) (width : Option ℕ) {E : Type 0} (source : Source) (first old_text old read new_text new : Text) (r : Result End E) →
    ProgramGives store words.file.now (Some source) first → read ≡ old ++ first →
    IfOk r (λ end. (text : Text) × (part : Text) × ProgramIs (program_of source.typed) words width end text part × (new_text ≡ old_text ++ text) × (new ≡ read ++ part)) →
    IfOk r (λ end. (text : Text) × (part : Text) × CallIs store words width end text part × (new_text ≡ old_text ++ text) × (new ≡ old ++ part))
told_of store words width source first old_text old read new_text new (Ok end) gives read_is told =
    let same : read ≡ old = read_is ∙ ap (λ part. old ++ part) gives.3 ∙ append-nil old in
    (told.0, told.1, inr (program_of source.typed, (source.bytes.items, gives.0, gives.2), told.2), told.3, told.4 ∙ ap (λ read. read ++ told.1) same)
told_of store words width source first old_text old read new_text new (Err error) gives read_is told = tt
