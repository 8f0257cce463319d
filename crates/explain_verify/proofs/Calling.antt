-- What is told of a source and of a certificate that are read.
use Rattle.std.proofs.Common.{◌≡◌, ◌≤◌, ℕ, [], ◌++◌, Option, Some, Result, Ok, Err, IfOk, ap, subst, ◌∙◌, inl, inr}
use Rattle.std.proofs.lemmas.List.{append-nil}
use Rattle.raml_io.specs.Files.{Files}
use Rattle.raml_syntax.specs.Tree.{Text, Prog}
use Rattle.raml_syntax.specs.Read.{program_of}
use Rattle.annot_types.specs.Certificate.{Certificate}
use Rattle.cert_json.specs.Told.{IsFile}
use Rattle.explain_check.specs.Checks.{ProgramGives}
use Rattle.explain_check.specs.Stores.{Store, store_of, FileGives}
use Rattle.explain_check.specs.declared.program.Source.{Source}
use Rattle.explain_check.proofs.Longer.{unread_since}
use Rattle.explain_verify.specs.Verified.{CallIs, ProgramIs, BytesAre, CertificateIs, most_certificate_bytes}
use Rattle.explain_verify.specs.declared.verification.Verification.{Verification}

-- what is told by a call that appends to two texts
abbrev Tells : {E : Type 0} → (Verification → Text → Text → Type 0) → Text → Text → Text → Text → Result Verification E → Type 0
Tells Is old_text new_text old new result =
    IfOk result (λ end. (shown : Text) × (part : Text) × Is end shown part × (new_text ≡ old_text ++ shown) × (new ≡ old ++ part))

-- nothing was told before
pub told_behind : (old read new first part : Text) → read ≡ old ++ first → first ≡ [] → new ≡ read ++ part → new ≡ old ++ part
told_behind old read new first part before none told = told ∙ ap (λ text. text ++ part) (before ∙ ap (λ part. old ++ part) none ∙ append-nil old)

-- of bytes that are a certificate
pub of_certificate : {E : Type 0} (file source name : Text) (P : Prog) (bytes : Text) (c : Certificate) (old_text new_text old new : Text) (result : Result Verification E) →
    IsFile bytes c → Tells (CertificateIs file source name P c) old_text new_text old new result → Tells (BytesAre file source name P bytes) old_text new_text old new result
of_certificate file source name P bytes c old_text new_text old new (Ok end) is told = (told.0, told.1, inr (c, is, told.2), told.3, told.4)
of_certificate file source name P bytes c old_text new_text old new (Err e) is told = tt

-- of a file whose bytes these are
pub of_bytes : {E : Type 0} (store : Store) (file source name : Text) (P : Prog) (bytes seen : Text) (first old_text new_text old read new : Text) (result : Result Verification E) →
    FileGives store most_certificate_bytes name (Some bytes) first → read ≡ old ++ first → seen ≡ bytes →
    Tells (BytesAre file source name P seen) old_text new_text read new result → Tells (ProgramIs store file source name P) old_text new_text old new result
of_bytes store file source name P bytes seen first old_text new_text old read new (Ok end) gives before e told =
    let here = subst (λ bytes. BytesAre file source name P bytes end told.0 told.1) e told.2 in
    (told.0, told.1, inr (bytes, gives.0, here), told.3, told_behind old read new first told.1 before gives.2 told.4)
of_bytes store file source name P bytes seen first old_text new_text old read new (Err x) gives before e told = tt

module _ (holds same : Option Files) (before mid after : Text → ℕ) (e : same ≡ holds) (early : (name : Text) → before name ≤ mid name) where
  since : (file source name : Text) (P : Prog) (end : Verification) (text part : Text) → ProgramIs (store_of same mid after) file source name P end text part →
      ProgramIs (store_of holds before after) file source name P end text part
  since file source name P end text part (inl not) = inl (not.0, not.1, unread_since holds same before mid after most_certificate_bytes name part e early not.2)
  since file source name P end text part (inr told) = subst (λ holds. ProgramIs (store_of holds before after) file source name P end text part) e (inr told)

  -- of a call, for the program of its source
  pub of_call : {E : Type 0} (file name : Text) (source : Source) (first old_text new_text old read new : Text) (result : Result Verification E) →
      ProgramGives (store_of holds before mid) file (Some source) first → read ≡ old ++ first →
      Tells (ProgramIs (store_of same mid after) file source.bytes.items name (program_of source.typed)) old_text new_text read new result →
      Tells (CallIs (store_of holds before after) file name) old_text new_text old new result
  of_call file name source first old_text new_text old read new (Ok end) gives once told =
      let P = program_of source.typed in
      let here = since file source.bytes.items name P end told.0 told.1 told.2 in
      (told.0, told.1, inr (source.bytes.items, P, gives.0, gives.2, here), told.3, told_behind old read new first told.1 once gives.3 told.4)
  of_call file name source first old_text new_text old read new (Err x) gives once told = tt
