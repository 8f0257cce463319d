-- What parts of a call answer, step by step.
use Rattle.std.proofs.Common.{◌≡◌, ℕ, List, Some, None, Result, Ok, Err, refl, subst, inl, inr}
use Rattle.raml_syntax.specs.Tree.{Text, Prog}
use Rattle.raml_syntax.specs.Value.{Value}
use Rattle.call_groups.specs.Groups.{Grouping, IsGrouping}
use Rattle.rules_soundness_laws.specs.Laws.{normal_of}
use Rattle.annot_types.specs.Program.{Program}
use Rattle.annot_types.specs.Certificate.{Certificate}
use Rattle.refusal_text.specs.declared.plain.Which.{Which}
use Rattle.refusal_text.specs.declared.plain.Which.TheVariants as w
use Rattle.cert_json.specs.Told.{IsFile}
use Rattle.value_text.specs.Reading.{Answers}
use Rattle.raml_syntax.specs.Types.{types_of}
use Rattle.refusals.specs.Ending.{Ending, ReadFault, TooLong}
use Rattle.refusals.specs.Line.{Names, no_names}
use Rattle.refusals.specs.Refusals.{IsWanting}
use Rattle.refusals.specs.declared.answer.Report.{Report}
use Rattle.refusals.specs.declared.answer.Refusal.{Refusal as TheRefusal}
use Rattle.raml_promise.specs.Outside.{Sound, Store, IsRead}
use Rattle.raml_promise.specs.Steps.{Answer, Refusal, Step, refused, goes_on, most_bytes, IsTooLong, OfShort, OfFile, OfProgram, OfNormal, SourceRefuses, IsTyped, RefusedOf, file_of}
use Rattle.raml_promise.specs.Prices.{PricesRefuse, OfPrices}
use Rattle.raml_promise.specs.DeclaredBounds.{BoundsRefuse, OfBounds}
use Rattle.bound_file.specs.Lines.{Declaration}
use Rattle.bound_file.specs.Answers as bounds
use Rattle.price_file.specs.Construct.{Prices}
use Rattle.price_file.specs.Spelling.{Spells, prices_in}
use Rattle.refusal_text.specs.declared.task.Analysed.{Analysed}
use Rattle.raml_promise.specs.Analysis.{OfCertificate, TextRefuses}
use Rattle.raml_promise.specs.Call.{Placed, IsNamed, DataRefuses, OfArguments, OfCall}
use Rattle.raml_parts.specs.Parts.{nothing, Refuses, Gives, IsShort, FileRefuses, IsProgram, ProgramRefuses, ArePrices, PriceFileRefuses, AreBounds, BoundsFileRefuses, IsCertificateFile, CertificateRefuses, CallRefuses}

-- what follows of each answer follows of what is given
pub gives_map : (Q R : Answer → Type 0) → ((a : Answer) → Q a → R a) → (r : Result Report TheRefusal) → Gives Q r → Gives R r
gives_map Q R go (Ok report) h = (h.0, h.1, go _ h.2)
gives_map Q R go (Err refusal) (inl wanting) = inl wanting
gives_map Q R go (Err refusal) (inr h) = inr (h.0, h.1, h.2, h.3, go _ h.4)

pub wanting_gives : (Q : Answer → Type 0) (refusal : TheRefusal) → IsWanting refusal → Gives Q (Err refusal)
wanting_gives Q refusal h = inl h

pub refusal_gives : (Q : Answer → Type 0) (names : Names) (R : Ending → Type 0) → ((e : Ending) → R e → Q (Refusal names e)) →
    (refusal : TheRefusal) → Refuses names R refusal → Gives Q (Err refusal)
refusal_gives Q names R go refusal (inl wanting) = inl wanting
refusal_gives Q names R go refusal (inr h) = inr (names, h.0, h.1, h.2, go h.0 h.3)

pub refuses_map : (names : Names) (Q R : Ending → Type 0) → ((e : Ending) → Q e → R e) → (refusal : TheRefusal) → Refuses names Q refusal → Refuses names R refusal
refuses_map names Q R go refusal (inl wanting) = inl wanting
refuses_map names Q R go refusal (inr h) = inr (h.0, h.1, h.2, go h.0 h.3)

-- a step is refused, or goes on
module _ {X : Type 0} (names : Names) (R : Ending → Type 0) (C : X → Type 0) (Rest : X → Answer → Type 0) where
  pub step_refused : (refusal : TheRefusal) → Refuses names R refusal → Gives (Step names R C Rest) (Err refusal)
  step_refused refusal h = refusal_gives (Step names R C Rest) names R (λ e r. refused e r refl) refusal h

  pub step_goes : (x : X) → C x → (r : Result Report TheRefusal) → Gives (Rest x) r → Gives (Step names R C Rest) r
  step_goes x comes r h = gives_map (Rest x) (Step names R C Rest) (λ a q. goes_on x comes q) r h

-- what comes behind a step may say less
pub step_map : {X : Type 0} (names : Names) (R : Ending → Type 0) (C : X → Type 0) (Q T : X → Answer → Type 0) → ((x : X) (a : Answer) → Q x a → T x a) →
    (a : Answer) → Step names R C Q a → Step names R C T a
step_map names R C Q T go a (refused e r is) = refused e r is
step_map names R C Q T go a (goes_on x comes q) = goes_on x comes (go x a q)

-- files
module _ (store : Store) (which : Which) (file : Text) where
  pub file_unread : IsRead Sound store (most_bytes which) file None → FileRefuses store which file (ReadFault which)
  file_unread rises = refused (ReadFault which) (refl, rises) refl

  pub file_long : (bytes : List ℕ) → IsRead Sound store (most_bytes which) file (Some bytes) → IsTooLong which bytes → FileRefuses store which file (TooLong which)
  file_long bytes seen long = goes_on bytes seen (refused (TooLong which) (refl, long) refl)

  pub file_comes : (Rest : List ℕ → Answer → Type 0) (bytes : List ℕ) → IsShort store which file bytes → (a : Answer) → Rest bytes a → OfFile Sound store which file Rest a
  file_comes Rest bytes short a rest = goes_on bytes short.read (goes_on tt short.short rest)

  file_map : (Q T : List ℕ → Answer → Type 0) → ((bytes : List ℕ) (a : Answer) → Q bytes a → T bytes a) → (a : Answer) →
      OfFile Sound store which file Q a → OfFile Sound store which file T a
  file_map Q T go = step_map no_names _ _ (λ bytes. OfShort which bytes (Q bytes)) (λ bytes. OfShort which bytes (T bytes)) (λ bytes. step_map no_names _ _ (λ done. Q bytes) (λ done. T bytes) (λ done. go bytes))

  -- whose bytes are refused, or come to something
  module _ {X : Type 0} (BytesRefuse : List ℕ → Ending → Type 0) (Comes : List ℕ → X → Type 0) where
    abbrev OfBytes : (X → Answer → Type 0) → List ℕ → Answer → Type 0
    OfBytes Rest bytes = Step no_names (BytesRefuse bytes) (Comes bytes) Rest

    pub by_file : (e : Ending) → FileRefuses store which file e → OfFile Sound store which file (OfBytes nothing) (Refusal no_names e)
    by_file e h = file_map nothing (OfBytes nothing) (λ bytes a none. absurd none) (Refusal no_names e) h

    pub by_bytes : (bytes : List ℕ) → IsShort store which file bytes → (e : Ending) → BytesRefuse bytes e → OfFile Sound store which file (OfBytes nothing) (Refusal no_names e)
    by_bytes bytes short e r = file_comes (OfBytes nothing) bytes short (Refusal no_names e) (refused e r refl)

    pub read_map : (Rest : X → Answer → Type 0) (a : Answer) → OfFile Sound store which file (OfBytes nothing) a → OfFile Sound store which file (OfBytes Rest) a
    read_map Rest = file_map (OfBytes nothing) (OfBytes Rest) (λ bytes. step_map no_names (BytesRefuse bytes) (Comes bytes) nothing Rest (λ x a none. absurd none))

    pub read_refusal : (Rest : X → Answer → Type 0) (refusal : TheRefusal) → Refuses no_names (λ e. OfFile Sound store which file (OfBytes nothing) (Refusal no_names e)) refusal →
        Gives (OfFile Sound store which file (OfBytes Rest)) (Err refusal)
    read_refusal Rest refusal h =
        refusal_gives (OfFile Sound store which file (OfBytes Rest)) no_names (λ e. OfFile Sound store which file (OfBytes nothing) (Refusal no_names e))
        (λ e. read_map Rest (Refusal no_names e)) refusal h

    pub read_goes : (Rest : X → Answer → Type 0) (bytes : List ℕ) → IsShort store which file bytes → (x : X) → Comes bytes x → (r : Result Report TheRefusal) → Gives (Rest x) r →
        Gives (OfFile Sound store which file (OfBytes Rest)) r
    read_goes Rest bytes short x comes r h =
        gives_map (Rest x) (OfFile Sound store which file (OfBytes Rest)) (λ a q. file_comes (OfBytes Rest) bytes short a (goes_on x comes q)) r h

-- programs
module _ (store : Store) (whose : Analysed) (file : Text) (Rest : Prog → Answer → Type 0) where
  pub program_refusal : (refusal : TheRefusal) → Refuses no_names (ProgramRefuses store whose file) refusal → Gives (OfProgram Sound store whose file Rest) (Err refusal)
  program_refusal refusal h = read_refusal store (file_of whose) file (λ source. RefusedOf whose (SourceRefuses source)) IsTyped Rest refusal h

  pub program_goes : (P : Prog) → IsProgram store whose file P → (r : Result Report TheRefusal) → Gives (Rest P) r → Gives (OfProgram Sound store whose file Rest) r
  program_goes P is r h = read_goes store (file_of whose) file (λ source. RefusedOf whose (SourceRefuses source)) IsTyped Rest is.source is.within P is.typed r h

-- tables of prices
module _ (store : Store) (file : Text) (Rest : Prices → Answer → Type 0) where
  pub prices_refusal : (refusal : TheRefusal) → Refuses no_names (PriceFileRefuses store file) refusal → Gives (OfPrices Sound store file Rest) (Err refusal)
  prices_refusal refusal h = read_refusal store w.Prices file PricesRefuse Spells (λ table. Rest (prices_in table)) refusal h

  pub prices_go : (prices : Prices) → ArePrices store file prices → (r : Result Report TheRefusal) → Gives (Rest prices) r → Gives (OfPrices Sound store file Rest) r
  prices_go prices are r h =
      read_goes store w.Prices file PricesRefuse Spells (λ table. Rest (prices_in table)) are.bytes are.within are.table are.spelled r (subst (λ p. Gives (Rest p) r) are.are h)

-- files of declared bounds
module _ (store : Store) (file : Text) (P : Prog) (degree : ℕ) (Rest : Declaration → Answer → Type 0) where
  pub bounds_refusal : (refusal : TheRefusal) → Refuses no_names (BoundsFileRefuses store file P degree) refusal → Gives (OfBounds Sound store file P degree Rest) (Err refusal)
  bounds_refusal refusal h = read_refusal store w.Bounds file (BoundsRefuse P degree) (bounds.Spells P degree) Rest refusal h

  pub bounds_go : (declared : Declaration) → AreBounds store file P degree declared → (r : Result Report TheRefusal) → Gives (Rest declared) r → Gives (OfBounds Sound store file P degree Rest) r
  bounds_go declared are r h = read_goes store w.Bounds file (BoundsRefuse P degree) (bounds.Spells P degree) Rest are.bytes are.within declared are.spelled r h

-- certificates
module _ (store : Store) (file : Text) (Rest : Certificate → Answer → Type 0) where
  pub certificate_refusal : (refusal : TheRefusal) → Refuses no_names (CertificateRefuses store file) refusal → Gives (OfCertificate Sound store file Rest) (Err refusal)
  certificate_refusal refusal h = read_refusal store w.Certificate file TextRefuses IsFile Rest refusal h

  pub certificate_goes : (c : Certificate) → IsCertificateFile store file c → (r : Result Report TheRefusal) → Gives (Rest c) r → Gives (OfCertificate Sound store file Rest) r
  certificate_goes c is r h = read_goes store w.Certificate file TextRefuses IsFile Rest is.bytes is.within c is.is r h

-- calls
module _ (store : Store) (P : Prog) (name file : Text) (Rest : Placed → List Value → Answer → Type 0) where
  pub call_refusal : (refusal : TheRefusal) → Refuses no_names (CallRefuses store P name file) refusal → Gives (OfCall Sound store P name file Rest) (Err refusal)
  call_refusal refusal h =
      refusal_gives (OfCall Sound store P name file Rest) no_names (CallRefuses store P name file)
      (λ e. step_map no_names _ (IsNamed P name) (λ f. OfFile Sound store w.Data file (λ bytes. OfArguments bytes f.1 nothing)) (λ f. OfFile Sound store w.Data file (λ bytes. OfArguments bytes f.1 (Rest f)))
      (λ f. read_map store w.Data file (λ bytes. DataRefuses bytes f.1) (λ bytes args. Answers bytes (types_of f.1) (Ok args)) (Rest f)) (Refusal no_names e))
      refusal h

  pub call_goes : (f : Placed) (args : List Value) (bytes : List ℕ) → IsNamed P name f → IsShort store w.Data file bytes →
      Answers bytes (types_of f.1) (Ok args) →
      (r : Result Report TheRefusal) → Gives (Rest f args) r → Gives (OfCall Sound store P name file Rest) r
  call_goes f args bytes named short spelled r h =
      gives_map (Rest f args) (OfCall Sound store P name file Rest) (λ a q. goes_on f named (file_comes store w.Data file (λ bytes. OfArguments bytes f.1 (Rest f)) bytes short a (goes_on args spelled q))) r h

-- the normal form
pub normal_gives : (P : Prog) (Rest : Program → Answer → Type 0) (groups : Grouping) (N : Program) → IsGrouping P groups → N ≡ normal_of P groups.list →
    (r : Result Report TheRefusal) → Gives (Rest N) r → Gives (OfNormal P Rest) r
normal_gives P Rest groups N grouping same r h =
    gives_map (Rest N) (OfNormal P Rest) (λ a q. record { groups = groups; grouping = grouping; rest = subst (λ M. Rest M a) same q }) r h
