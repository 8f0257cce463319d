-- What is told of a source that is read, and of its program.
use Rattle.std.proofs.Common.{◌≡◌, ◌++◌, ℕ, Some, Result, Ok, Err, IfOk, refl, ap, ◌∙◌, inr}
use Rattle.std.proofs.lemmas.List.{append-nil}
use Rattle.raml_syntax.specs.Tree.{Text, Prog}
use Rattle.raml_syntax.specs.Read.{program_of}
use Rattle.explain_check.specs.Checks.{ProgramGives}
use Rattle.explain_check.specs.Stores.{Store}
use Rattle.explain_check.specs.declared.program.Source.{Source}
use Rattle.explain_words.specs.declared.request.why.WhyWords.{WhyWords}
use Rattle.explain_reasons.specs.Explanation.{IsExplanation}
use Rattle.explain_reasons.specs.declared.program.Explanation.{Explanation}
use Rattle.explain_why.specs.Calls.{CallIs, ProgramIs, IsExplained, IsAsked, EndsBy, refused_lines}
use Rattle.explain_why.specs.Chosen.{Asking}
use Rattle.explain_why.specs.Outcome.{Outcome}
use Rattle.explain_why.specs.Read.{outcome_of, bytes_in}
use Rattle.explain_why.specs.declared.call.Told.{Told}

-- what is told by a call that appends to two texts
abbrev pub Tells : {E : Type 0} → (Outcome → Type 0) → Text → Text → Text → Text → Result Told E → Type 0
Tells Is old_text new_text old new result =
    IfOk result (λ told. (shown : Text) × (part : Text) × Is (outcome_of told shown part) × (new_text ≡ old_text ++ shown) × (new ≡ old ++ part))

pub of_call : {E : Type 0} (store : Store) (words : WhyWords) (source : Source) (first old_text new_text old read new : Text) (result : Result Told E) →
    ProgramGives store words.file.now (Some source) first → read ≡ old ++ first →
    Tells (ProgramIs source.bytes.items (program_of source.typed) words) old_text new_text read new result →
    Tells (CallIs store words) old_text new_text old new result
of_call store words source first old_text new_text old read new (Ok end) gives once told =
    let same : read ≡ old = once ∙ ap (λ part. old ++ part) gives.3 ∙ append-nil old in
    (told.0, told.1, inr (source.bytes.items, program_of source.typed, gives.0, gives.2, told.2), told.3, told.4 ∙ ap (λ read. read ++ told.1) same)
of_call store words source first old_text new_text old read new (Err x) gives once told = tt

-- of an explanation, whose refused degrees were told before
pub of_explanation : {E : Type 0} (name source : Text) (P : Prog) (degree : ℕ) (asking : Asking) (x : Explanation) (old_text new_text old new : Text) (result : Result Told E) →
    IsExplanation source P degree x → new ≡ old ++ refused_lines x.found.refused.items →
    IfOk result (λ told. (shown : Text) × EndsBy name source P asking x told.end (bytes_in told.changed) shown × (new_text ≡ old_text ++ shown)) →
    Tells (IsExplained name source P degree asking) old_text new_text old new result
of_explanation name source P degree asking x old_text new_text old new (Ok told) is refused ends =
    (ends.0, refused_lines x.found.refused.items, record { explanation = x; is = is; ends = ends.1; refused = refl }, ends.2, refused)
of_explanation name source P degree asking x old_text new_text old new (Err e) is refused ends = tt

-- of what the words ask about
pub of_asked : {E : Type 0} (source : Text) (P : Prog) (words : WhyWords) (asking : Asking) (old_text new_text old new : Text) (result : Result Told E) →
    IsAsked P words asking → Tells (IsExplained words.file.now source P words.degree asking) old_text new_text old new result →
    Tells (ProgramIs source P words) old_text new_text old new result
of_asked source P words asking old_text new_text old new (Ok end) is told = (told.0, told.1, inr (asking, is, told.2), told.3, told.4)
of_asked source P words asking old_text new_text old new (Err e) is told = tt
