-- What is told of a certificate.
use Rattle.std.proofs.Common.{◌≡◌, ◌⊎◌, [], ◌++◌, Result, Ok, Err, IfOk, refl, sym, subst, ◌∙◌, inl, inr}
use Rattle.std.proofs.lemmas.List.{append-nil}
use Rattle.raml_syntax.specs.Tree.{Text, Prog}
use Rattle.call_groups.specs.Groups.{IsGrouping}
use Rattle.rules_soundness_laws.specs.Laws.{normal_of}
use Rattle.rules_plan.specs.Read.{program_in}
use Rattle.share_normal.specs.Program.{Kept, source_in}
use Rattle.cost_free.specs.Read.{outcomes_of}
use Rattle.annot_types.specs.Certificate.{Certificate}
use Rattle.cert_check.specs.declared.fault.CertFault.TheVariants as check
use Rattle.bound_infer.specs.Inferred.{IsVerified, VerifyCause}
use Rattle.bound_infer.specs.declared.refusal.VerifyFault.{VerifyFault}
use Rattle.bound_infer.specs.declared.refusal.VerifyFault.TheVariants as verify
use Rattle.explain_verify.specs.Told as t
use Rattle.explain_verify.specs.Verified.{FaultIs, Told, CertificateIs, subject_of, holds_line}
use Rattle.explain_verify.specs.Read.{IsOutline}
use Rattle.explain_verify.specs.declared.outline.Outline.{Outline}
use Rattle.explain_verify.specs.declared.verification.Verification.{Verification}
use Rattle.explain_verify.specs.declared.verification.Verification.TheVariants.{Holds, Fails, Refused, NotAnalysed}

-- a fault is told as one
ends : (s : t.Subject) (fault : VerifyFault) (end : Verification) (report : Text) → FaultIs s fault end report → (end ≡ Fails) ⊎ (end ≡ NotAnalysed)
ends s (verify.Cert (check.Shape block)) end report is = inl is.0
ends s (verify.Cert (check.Fails block path index)) end report is = inl is.0
ends s (verify.Cert (check.Leaves block path index)) end report is = inr is.0
ends s (verify.Cert (check.TooLarge task)) end report is = inr is.0
ends s (verify.Cert check.NoMemory) end report is = absurd is
ends s (verify.NotRefuted block) end report is = inl is.0
ends s (verify.TooLarge task what) end report is = inr is.0
ends s (verify.Leaves at) end report is = inr is.0
ends s verify.NoMemory end report is = absurd is

fault_told : (s : t.Subject) (c : Certificate) (fault : VerifyFault) (end : Verification) (report : Text) → VerifyCause s.normal c fault → FaultIs s fault end report → Told s c end [] report
fault_told s c fault Fails report cause is = (refl, (fault, cause, is))
fault_told s c fault NotAnalysed report cause is = (refl, (fault, cause, is))
fault_told s c fault Holds report cause is = absurd (by (ends s fault Holds report is))
  where
    by : (Holds ≡ Fails) ⊎ (Holds ≡ NotAnalysed) → ⊥
    by (inl e) = cc
    by (inr e) = cc
fault_told s c fault Refused report cause is = absurd (by (ends s fault Refused report is))
  where
    by : (Refused ≡ Fails) ⊎ (Refused ≡ NotAnalysed) → ⊥
    by (inl e) = cc
    by (inr e) = cc

-- the subject that the code has is that of the program and the certificate
module _ (file source name : Text) (kept : Kept) (outline : Outline) (P : Prog) (c : Certificate) (program : source_in kept ≡ P) (grouping : IsGrouping P kept.groups)
    (normal : program_in kept ≡ normal_of P kept.groups.list) (is : IsOutline c outline) where
  abbrev subject : t.Subject
  subject = record {
    file = file;
    source = source;
    certificate = name;
    program = source_in kept;
    normal = program_in kept;
    degree = outline.degree;
    work = outline.work;
    done = outcomes_of outline.done.items;
  }

  same : subject ≡ subject_of file source name P kept.groups c
  same = λ i. record {
    file = file;
    source = source;
    certificate = name;
    program = program i;
    normal = normal i;
    degree = is.degree i;
    work = is.work i;
    done = is.done i;
  }

  told_is : (end : Verification) (text report : Text) → Told subject c end text report → CertificateIs file source name P c end text report
  told_is end text report told = record { groups = kept.groups; grouping = grouping; told = subst (λ s. Told s c end text report) same told }

  pub holds_told : IsVerified (program_in kept) c → CertificateIs file source name P c Holds (holds_line subject) []
  holds_told verified = told_is Holds (holds_line subject) [] (verified, refl, refl)

  -- where the text is as it was
  pub fails_told : {E : Type 0} (fault : VerifyFault) (text new_text old new : Text) (result : Result Verification E) → VerifyCause (program_in kept) c fault → new_text ≡ text →
      IfOk result (λ end. (part : Text) × FaultIs subject fault end part × (new ≡ old ++ part)) →
      IfOk result (λ end. (shown : Text) × (part : Text) × CertificateIs file source name P c end shown part × (new_text ≡ text ++ shown) × (new ≡ old ++ part))
  fails_told fault text new_text old new (Ok end) cause kept_text told =
      ([], told.0, told_is end [] told.0 (fault_told subject c fault end told.0 cause told.1), kept_text ∙ sym (append-nil text), told.2)
  fails_told fault text new_text old new (Err e) cause kept_text told = tt
