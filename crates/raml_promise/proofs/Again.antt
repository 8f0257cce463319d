-- What `certify` wrote is verified again.
use Rattle.std.proofs.Common.{◌≡◌, ◌≤◌, ℕ, suc, [], length, take, ◌++◌, Some, None, sym, ap, subst, ◌∙◌, arith, inl, inr}
use Rattle.std.proofs.lemmas.List.{take_all, length-take}
use Rattle.std.specs.Prelude.{codes}
use Rattle.raml_syntax.specs.Tree.{Text, Prog}
use Rattle.raml_parse.proofs.Limits.{within_limits}
use Rattle.raml_words.specs.Words as w
use Rattle.raml_words.specs.Words.{Request, Asks, AsksNothing}
use Rattle.raml_words.proofs.Worded.{one_request}
use Rattle.raml_words.specs.declared.request.Rule.{Rule}
use Rattle.call_groups.specs.Groups.{Grouping, IsGrouping}
use Rattle.rules_soundness_laws.specs.Laws.{normal_of}
use Rattle.annot_types.specs.Program.{Program}
use Rattle.annot_types.specs.Certificate.{Certificate}
use Rattle.infer_spec.specs.Generator.{Analysis}
use Rattle.infer_spec.specs.Verifying as v
use Rattle.infer_systems_laws.specs.Analysed.{generator_of}
use Rattle.infer_systems_laws.specs.Tried.{IsOrdered}
use Rattle.cert_json.specs.Told.{text_of, IsFile}
use Rattle.cert_check.specs.Fault as f
use Rattle.cert_check.specs.Finds.{FirstFault}
use Rattle.cert_check.proofs.OneFault.{one_first_fault}
use Rattle.bound_infer.specs.Inferred.{SystemsAreSmall, VectorFault}
use Rattle.bound_infer.specs.declared.refusal.VerifyFault.TheVariants.{NotRefuted as NotRefutedAt}
use Rattle.analysis_report.specs.Lines.{AreLines}
use Rattle.refusals.specs.Ending as e
use Rattle.refusals.specs.Ending.{Ending, ending_of, Done, ReadFault, TooLong, TooLarge, Certified, Json, NotRefuted, Overflows}
use Rattle.refusals.specs.Line.{Names, no_names}
use Rattle.refusals.specs.declared.status.Status.{Status}
use Rattle.refusals.specs.declared.status.Status.TheVariants as s
use Rattle.refusal_text.specs.declared.plain.Which.TheVariants as which
use Rattle.refusal_text.specs.declared.task.Analysed.TheVariants as analysed
use Rattle.raml_promise.specs.Outside.{Outside, Store, Sound, Tells, IsSeen, Gains}
use Rattle.raml_promise.specs.Steps.{Answer, Report, Refusal, Step, refused, goes_on, most_bytes, SourceRefuses, IsTyped, OfSource, OfProgram, OfNormal, names_of}
use Rattle.raml_promise.specs.Analysis.{analysis, pick_of, CourseRefuses, IsCourse, OfCourse, TextRefuses, CheckRefuses, OfCheck}
use Rattle.raml_promise.specs.Promise.{PrintsCertificate, PrintsLines, Certifies, Verifies, Answers, EndsBy, Comes}
use Rattle.raml_promise.specs.Again.{VerifiesText, AnswersAgain, WritesCertificate, WrittenVerifies}
use Rattle.raml_promise.specs.Known.{KnownLaws}
use Rattle.raml_promise.proofs.OneSource.{told_front, front_is, one_program, refused_or_typed}
use Rattle.raml_promise.proofs.OneCourse.{one_order}
use Rattle.raml_promise.proofs.OneCheck.{one_file, text_or_file}

-- ---- the steps of the other call

-- of a file that is told, what is read is a front
module _ (store : Store) (file content bytes : Text) (limit : ℕ) (tells : Tells store file (Some content)) (seen : IsSeen store limit file bytes) where
  front : take (suc limit) content ≡ bytes
  front = front_is limit file bytes content tells.files tells.held (told_front store limit file bytes tells.files tells.told seen)

  -- no more than what it holds
  pub fewer : length bytes ≤ length content
  fewer = let l = length-take (suc limit) content in let s = ap length front in omega (arith, l, s)

  -- and all of it, where that is no more than the limit
  pub all_of : length bytes ≤ limit → bytes ≡ content
  all_of short = let l = length-take (suc limit) content in let s = ap length front in sym front ∙ take_all (suc limit) content (omega (arith, short, l, s))

module _ (P : Prog) (N : Program) (cert : Certificate) (text : Text) (passes : FirstFault N cert None)
    (unrefuted : (block : ℕ) → VectorFault N cert block v.NotRefuted → ⊥) (small : SystemsAreSmall N cert) where
  abbrev Again : Answer → Type 0
  Again = AnswersAgain (AreLines P N cert) text

  no_fault : (fault : f.Fault) → FirstFault N cert (Some fault) → ⊥
  no_fault fault h = let same = one_first_fault N cert (Some fault) None h passes in absurd (cc)

  refusal : (names : Names) (x : Ending) → CheckRefuses N cert x → Again (Refusal names x)
  refusal names (Certified (e.Check (f.Shape block))) h = absurd (no_fault (f.Shape block) h)
  refusal names (Certified (e.Check (f.Fails block path index))) h = absurd (no_fault (f.Fails block path index) h)
  refusal names (Certified (NotRefuted block)) h = absurd (unrefuted block h)
  refusal names (TooLarge task what) (inl h) = absurd (no_fault (f.TooLarge task) h.0)
  refusal names (TooLarge task what) (inr h) = absurd (small h.place what h.has.first.is)
  refusal names (Overflows place) h = tt
  refusal names x h = absurd h

  printed : (a : Answer) → PrintsLines Sound P N cert a → Again a
  printed (Report Done lines) h = h
  printed a h = absurd h

  pub checked : (a : Answer) → OfCheck Sound P N cert (PrintsLines Sound P N cert) a → Again a
  checked a (refused x r is) = subst Again (sym is) (refusal (names_of P N) x r)
  checked a (goes_on done h rest) = printed a rest

-- ---- the call

module _ (laws : KnownLaws) where
  module _ (P : Prog) (source : Text) (typed : IsTyped source P) (groups : Grouping) (grouping : IsGrouping P groups) (degree : ℕ) (rule : Rule) (cert : Certificate)
      (course : IsCourse Sound P (analysis (normal_of P groups.list) degree rule) cert) (text : Text) (file : length text ≤ most_bytes which.Certificate → IsFile text cert)
      (short : length source ≤ most_bytes which.Program) where
    abbrev N : Program
    N = normal_of P groups.list

    abbrev A : Analysis
    A = analysis N degree rule

    abbrev Answered : Answer → Type 0
    Answered = AnswersAgain (AreLines P N cert) text

    degree_is : cert.degree ≡ degree
    degree_is = ap (λ (x : Certificate). x.degree) course.inferred.ends.is

    ordered : IsOrdered N
    ordered = laws.ordered P typed.typed (within_limits 200 typed.spelled.tokens P typed.spelled.derives).numbers groups grouping

    small : SystemsAreSmall N cert
    small place what h =
        laws.large A (laws.generate N ordered degree (pick_of rule)) cert course.inferred.ends place what (subst (λ n. v.BlockFault N (generator_of N n) cert place (v.TooLarge what)) degree_is h)

    unrefuted : (block : ℕ) → VectorFault N cert block v.NotRefuted → ⊥
    unrefuted block h =
        let held = course.proved.valid.held in
        laws.verify N ordered degree (subst (λ n. 1 ≤ n) degree_is held.least_degree) (subst (λ n. n ≤ 4) degree_is held.most_degree) (pick_of rule) cert course.inferred.ends (NotRefutedAt block) h

    module _ (other : Outside) (named spelled : Text) (program : Tells other.store named (Some source)) (certified : Tells other.store spelled (Some text)) where
      of_normal : (a : Answer) → OfNormal P (λ M. OfCheck Sound P M cert (PrintsLines Sound P M cert)) a → Answered a
      of_normal a h =
          let same = one_order P [] h.groups.list groups.list h.grouping.in_order grouping.in_order in
          checked P N cert text course.inferred.passes unrefuted small a (subst (λ gs. OfCheck Sound P (normal_of P gs) cert (PrintsLines Sound P (normal_of P gs) cert) a) same h.rest)

      of_text : length text ≤ most_bytes which.Certificate → (a : Answer) →
          Step no_names (TextRefuses text) (IsFile text) (λ c. OfNormal P (λ M. OfCheck Sound P M c (PrintsLines Sound P M c))) a → Answered a
      of_text low a (refused x r is) = absurd (text_or_file text x cert r (file low))
      of_text low a (goes_on c is rest) =
          of_normal a (subst (λ c. OfNormal P (λ M. OfCheck Sound P M c (PrintsLines Sound P M c)) a) (one_file text c cert is (file low)) rest)

      of_certificate : (a : Answer) → Verifies Sound other.store spelled P a → Answered a
      of_certificate a (refused x r is) = subst Answered (sym (is ∙ ap (Refusal no_names) r.0)) tt
      of_certificate a (goes_on bytes seen (refused x r is)) =
          subst Answered (sym (is ∙ ap (Refusal no_names) r.0)) (let l = fewer other.store spelled text bytes (most_bytes which.Certificate) certified seen in omega (arith, l, r.1))
      of_certificate a (goes_on bytes seen (goes_on done low rest)) =
          let same = all_of other.store spelled text bytes (most_bytes which.Certificate) certified seen low in
          of_text (subst (λ b. length b ≤ most_bytes which.Certificate) same low) a
          (subst (λ b. Step no_names (TextRefuses b) (IsFile b) (λ c. OfNormal P (λ M. OfCheck Sound P M c (PrintsLines Sound P M c))) a) same rest)

      of_source : (a : Answer) → OfSource analysed.Program source (Verifies Sound other.store spelled) a → Answered a
      of_source a (refused x r is) = absurd (refused_or_typed source x P r typed)
      of_source a (goes_on Q are rest) = of_certificate a (subst (λ Q. Verifies Sound other.store spelled Q a) (one_program source Q P are.spelled typed.spelled) rest)

      of_program : (a : Answer) → OfProgram Sound other.store analysed.Program named (Verifies Sound other.store spelled) a → Answered a
      of_program a (refused x r is) = subst Answered (sym (is ∙ ap (Refusal no_names) r.0)) tt
      of_program a (goes_on bytes seen (refused x r is)) =
          let l = fewer other.store named source bytes (most_bytes which.Program) program seen in absurd (omega (arith, l, r.1, short))
      of_program a (goes_on bytes seen (goes_on done low rest)) =
          let same = all_of other.store named source bytes (most_bytes which.Program) program seen low in
          of_source a (subst (λ b. OfSource analysed.Program b (Verifies Sound other.store spelled) a) same rest)

    pub answered : (other : Outside) (a : Answer) → VerifiesText other source text → Comes Sound other a → Answered a
    answered other a call (refused x r is) = absurd (r.1 (w.Verify call.file call.certificate) call.asks)
    answered other a call (goes_on request asks rest) =
        of_program other call.file call.certificate call.program call.certified a
        (subst (λ q. Answers Sound other.store q a) (one_request other.words request (w.Verify call.file call.certificate) asks call.asks) rest)

  module _ (o : Outside) (status : Status) (done : status ≡ s.Done) (file : Text) (degree : ℕ) (rule : Rule) where
    -- a call that is refused does not end with Done
    not_refused : (a : Answer) (names : Names) (x : Ending) → a ≡ Refusal names x → EndsBy o a status → x ≡ Done
    not_refused a names x is ends =
        let h = subst (λ a. EndsBy o a status) is ends in
        let same = sym h.0 ∙ ap ending_of done in cc

    gained : (text : Text) → EndsBy o (Report Done text) status → Gains text o.out
    gained text (inl h) = h.1
    gained text (inr h) = absurd (let wrong = sym done ∙ h.0 in cc)

    module _ (source : Text) (seen : IsSeen o.store (most_bytes which.Program) file source) (short : length source ≤ most_bytes which.Program) (P : Prog) (typed : IsTyped source P)
        (groups : Grouping) (grouping : IsGrouping P groups) where
      written : (cert : Certificate) → IsCourse Sound P (analysis (normal_of P groups.list) degree rule) cert → (a : Answer) → EndsBy o a status →
          PrintsCertificate Sound cert a → WritesCertificate o file degree rule
      written cert course (Report Done text) ends is = record {
        source = source;
        seen = seen;
        program = P;
        typed = typed;
        groups = groups;
        grouping = grouping;
        certificate = cert;
        inferred = course.inferred;
        written = subst (λ t. Gains t o.out) is.0 (gained text ends);
        again = answered P source typed groups grouping degree rule cert course (text_of cert ++ codes "\n") (subst (λ t. length t ≤ most_bytes which.Certificate → IsFile t cert) is.0 is.1) short;
      }
      written cert course a ends is = absurd is

      of_course : (a : Answer) → EndsBy o a status → OfCourse Sound analysed.Program P (normal_of P groups.list) degree rule (PrintsCertificate Sound) a → WritesCertificate o file degree rule
      of_course a ends (refused x r is) =
          absurd (subst (CourseRefuses (analysis (normal_of P groups.list) degree rule)) (not_refused a (names_of P (normal_of P groups.list)) x is ends) r)
      of_course a ends (goes_on cert course prints) = written cert course a ends prints

    certifies : (a : Answer) → EndsBy o a status → OfProgram Sound o.store analysed.Program file (Certifies Sound degree rule) a → WritesCertificate o file degree rule
    certifies a ends (refused x r is) = absurd (let q = sym r.0 ∙ not_refused a no_names x is ends in cc)
    certifies a ends (goes_on source seen (refused x r is)) = absurd (let q = sym r.0 ∙ not_refused a no_names x is ends in cc)
    certifies a ends (goes_on source seen (goes_on u short (refused x r is))) = absurd (subst (SourceRefuses source) (not_refused a no_names x is ends) r)
    certifies a ends (goes_on source seen (goes_on u short (goes_on P typed normal))) = of_course source seen short P typed normal.groups normal.grouping a ends normal.rest

  pub written_verifies : WrittenVerifies
  written_verifies o status (inl lacks) file degree rule asks done = absurd (let wrong = sym lacks.0 ∙ done in cc)
  written_verifies o status (inr (a, comes, ends)) file degree rule asks done = by comes
    where
      by : Comes Sound o a → WritesCertificate o file degree rule
      by (refused x r is) = absurd (r.1 (w.Certify file degree rule) asks)
      by (goes_on request asked rest) =
          certifies o status done file degree rule a ends (subst (λ q. Answers Sound o.store q a) (one_request o.words request (w.Certify file degree rule) asked asks) rest)
