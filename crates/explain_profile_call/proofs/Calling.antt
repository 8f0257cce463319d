-- What is told of a source that is read, of its program, and of a function.
use Rattle.std.proofs.Common.{◌≡◌, ◌≤◌, ◌++◌, [], ◌∷◌, ℕ, zero, suc, List, Some, None, Result, Ok, Err, IfOk, length, ap, refl, sym, subst, ◌∙◌, inl, inr, slice_get, arith}
use Rattle.std.proofs.lemmas.List.{append-nil}
use Rattle.raml_syntax.specs.Tree.{Text, Prog}
use Rattle.raml_syntax.specs.Place.{place_of}
use Rattle.raml_syntax.specs.Read.{program_of}
use Rattle.explain_data.specs.Data.{no_function_line}
use Rattle.explain_check.specs.Checks.{ProgramGives, IsProgramOf, most_bytes}
use Rattle.explain_check.specs.Stores.{Store}
use Rattle.explain_check.specs.declared.program.Source.{Source}
use Rattle.explain_calls.specs.declared.end.End.{End}
use Rattle.explain_calls.specs.declared.end.End.TheVariants as e
use Rattle.explain_words.specs.declared.request.profile.ProfileWords.{ProfileWords}
use Rattle.explain_regions.specs.Counter.{IsLexed}
use Rattle.explain_profile_call.specs.Calls.{CallIs, ProgramIs, function_at}

-- what is told by a call that appends to two texts
abbrev pub Tells : {E : Type 0} → (End → Text → Text → Type 0) → Text → Text → Text → Text → Result End E → Type 0
Tells Is old_text new_text old new result =
    IfOk result (λ end. (shown : Text) × (part : Text) × Is end shown part × (new_text ≡ old_text ++ shown) × (new ≡ old ++ part))

-- another reading of what is told
pub told_so : {E : Type 0} (Is Was : End → Text → Text → Type 0) (old_text new_text old new : Text) (result : Result End E) →
    ((end : End) (shown part : Text) → Was end shown part → Is end shown part) → Tells Was old_text new_text old new result →
    Tells Is old_text new_text old new result
told_so Is Was old_text new_text old new (Ok end) so told = (told.0, told.1, so end told.0 told.1 told.2, told.3, told.4)
told_so Is Was old_text new_text old new (Err x) so told = tt

-- it is refused, and why is told
pub refused : {E : Type 0} (Is : End → Text → Text → Type 0) (text old new part : Text) (result : Result End E) →
    (Is e.Refused [] part) → IfOk result (λ end. end ≡ e.Refused) → IfOk result (λ end. new ≡ old ++ part) → Tells Is text text old new result
refused Is text old new part (Ok end) is ends told = ([], part, subst (λ end. Is end [] part) (sym ends) is, sym (append-nil text), told)
refused Is text old new part (Err x) is ends told = tt

-- a source that is read has tokens
pub lexed : (store : Store) (file part : Text) (source : Source) → ProgramGives store file (Some source) part → IsLexed source.bytes.items
lexed store file part source gives =
    let short : length source.bytes.items ≤ most_bytes = gives.1 in
    let program : IsProgramOf source.bytes.items (program_of source.typed) = gives.2 in
    record { short = omega (arith, short); tokens = program.spelled.tokens; has = program.spelled.has }

pub of_call : {E : Type 0} (store : Store) (words : ProfileWords) (source : Source) (first old_text new_text old read new : Text) (result : Result End E) →
    ProgramGives store words.file.now (Some source) first → read ≡ old ++ first →
    Tells (ProgramIs source.bytes.items (program_of source.typed) words) old_text new_text read new result →
    Tells (CallIs store words) old_text new_text old new result
of_call store words source first old_text new_text old read new (Ok end) gives once told =
    let same : read ≡ old = once ∙ ap (λ part. old ++ part) gives.3 ∙ append-nil old in
    (told.0, told.1, inr (source.bytes.items, program_of source.typed, gives.0, gives.2, told.2), told.3, told.4 ∙ ap (λ read. read ++ told.1) same)
of_call store words source first old_text new_text old read new (Err x) gives once told = tt

-- behind the end of a list is nothing
pub past : {A : Type 0} (xs : List A) (i : ℕ) → length xs ≤ i → slice_get xs i ≡ None
past [] i over = refl
past (x ∷ xs) zero over = absurd (omega (arith, over))
past (x ∷ xs) (suc i) over = past xs i (omega (arith, over))

-- there is no function of the name
pub of_none : {E : Type 0} (source : Text) (P : Prog) (words : ProfileWords) (text old new : Text) (result : Result End E) →
    function_at P (place_of words.function.now P) ≡ None → IfOk result (λ end. end ≡ e.Refused) →
    IfOk result (λ end. new ≡ old ++ no_function_line words.file.now words.function.now) → Tells (ProgramIs source P words) text text old new result
of_none source P words text old new result lacks =
    refused (ProgramIs source P words) text old new (no_function_line words.file.now words.function.now) result (inl (lacks, refl, refl, refl))
