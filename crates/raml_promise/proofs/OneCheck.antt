-- A file is one certificate, and its check comes to one end.
use Rattle.std.proofs.Common.{◌≡◌, ◌<◌, ℕ, ℤ, List, Option, Some, None, Result, Ok, Err, refl, sym, ap, subst, ◌∙◌, arith, inl, inr, ⊎_elim}
use Rattle.std.specs.Prelude.{slice_get}
use Rattle.serde_json.specs.Data.{Data}
use Rattle.serde_json.specs.Read.{read}
use Rattle.raml_syntax.specs.Tree.{Text, Prog}
use Rattle.cost_free.specs.Task.{Task}
use Rattle.linear_rows.specs.Terms.{SparseRow}
use Rattle.linear_rows.specs.Systems.{LinearSystem}
use Rattle.farkas_check.specs.Checks.{Check, IsVerdict, refuting}
use Rattle.farkas_check.specs.declared.Verdict.TheVariants.{No, Leaves}
use Rattle.farkas_check.proofs.Firsts.{one_first}
use Rattle.annot_types.specs.Program.{Program}
use Rattle.annot_types.specs.Certificate.{Entries, Refuted, Body, Block, Certificate}
use Rattle.annot_types.specs.Held.{before, scale_for}
use Rattle.annot_types.specs.System.{system}
use Rattle.infer_spec.specs.Generator.{What, Indices, limit_of}
use Rattle.infer_spec.specs.Places as p
use Rattle.infer_spec.specs.Places.{RowFits, RowLeaves}
use Rattle.infer_spec.specs.Verifying as v
use Rattle.cert_json.specs.Faults as j
use Rattle.cert_json.specs.Faults.{Refuses, HasParts}
use Rattle.cert_json.specs.Parts.{parts}
use Rattle.cert_json.specs.Told.{IsFile, IsRefused, RefusedBy}
use Rattle.cert_json.specs.Steps.{read_certificate}
use Rattle.cert_json.specs.Parts as whole_parts
use Rattle.cert_json.proofs.Alone.{refused_is, one_cause}
use Rattle.cert_json.proofs.Certificates.{certificate_complete}
use Rattle.cert_json.proofs.Parted.{parts_tell}
use Rattle.cert_check.specs.Fault as f
use Rattle.cert_check.specs.Finds as check
use Rattle.cert_check.specs.Laws.{IsFaultless}
use Rattle.cert_check.proofs.OneFault.{one_first_fault}
use Rattle.infer_systems_laws.specs.Analysed.{generator_of}
use Rattle.bound_infer.specs.Inferred.{IsVerified, VectorFault, TaskFault}
use Rattle.refusal_text.specs.declared.plain.Which.TheVariants as w
use Rattle.refusals.specs.Ending as e
use Rattle.refusals.specs.Ending.{Ending, Certified, Json, NotRefuted, TooLarge, Overflows, OnTask, InCheck}
use Rattle.refusals.specs.Line.{no_names}
use Rattle.raml_promise.specs.Outside.{Sound, Complete, Store}
use Rattle.raml_promise.specs.Steps.{Answer, names_of, Step}
use Rattle.raml_promise.specs.Analysis.{TextRefuses, OfCertificate, CheckRefuses, IsChecked, OfCheck}
use Rattle.raml_promise.proofs.Alike.{alike_same, Same, steps_same}
use Rattle.raml_promise.proofs.OneSource.{file_same}

-- ---- the text

module _ (bytes : List ℕ) where
  one_value : (d other : Data) → read bytes ≡ Some d → read bytes ≡ Some other → d ≡ other
  one_value d other h k = let s = sym h ∙ k in cc

  refused_same : (x y : j.Fault) → IsRefused bytes x → IsRefused bytes y → x ≡ y
  refused_same x y h k = one_cause h.1 x y h.3 (subst (λ d. Refuses d y) (sym (one_value h.1 k.1 h.2 k.2)) k.3)

  one_text_fault : (x y : j.Fault) → RefusedBy bytes x → RefusedBy bytes y → x ≡ y
  one_text_fault j.NotJson j.NotJson h k = refl
  one_text_fault j.NotJson (j.Shape place) h k = absurd (h k.0 k.1 k.2)
  one_text_fault j.NotJson (j.Number place) h k = absurd (h k.0 k.1 k.2)
  one_text_fault (j.Shape place) j.NotJson h k = absurd (k h.0 h.1 h.2)
  one_text_fault (j.Shape place) (j.Shape other) h k = refused_same (j.Shape place) (j.Shape other) h k
  one_text_fault (j.Shape place) (j.Number other) h k = refused_same (j.Shape place) (j.Number other) h k
  one_text_fault (j.Number place) j.NotJson h k = absurd (k h.0 h.1 h.2)
  one_text_fault (j.Number place) (j.Shape other) h k = refused_same (j.Number place) (j.Shape other) h k
  one_text_fault (j.Number place) (j.Number other) h k = refused_same (j.Number place) (j.Number other) h k

  read_or_refused : (x : j.Fault) (cert : Certificate) → IsRefused bytes x → IsFile bytes cert → ⊥
  read_or_refused x cert h is =
      let same = one_value is.value h.1 is.read h.2 in
      let a = refused_is h.1 x h.3 in
      let b = certificate_complete h.1 (parts cert) (subst (λ d. HasParts d (parts cert)) same is.is) in
      never a b
    where
      never : read_certificate h.1 ≡ Err x → read_certificate h.1 ≡ Ok (parts cert) → ⊥
      never a b = absurd (cc)

  file_or_fault : (x : j.Fault) (cert : Certificate) → RefusedBy bytes x → IsFile bytes cert → ⊥
  file_or_fault j.NotJson cert h is = h is.text is.value is.read
  file_or_fault (j.Shape place) cert h is = read_or_refused (j.Shape place) cert h is
  file_or_fault (j.Number place) cert h is = read_or_refused (j.Number place) cert h is

  pub one_file : (x y : Certificate) → IsFile bytes x → IsFile bytes y → x ≡ y
  one_file x y h k =
      let same = one_value k.value h.value k.read h.read in
      let a = certificate_complete h.value (parts x) h.is in
      let b = certificate_complete h.value (parts y) (subst (λ d. HasParts d (parts y)) same k.is) in
      parts_tell x y (whole (sym a ∙ b))
    where
      whole : ◌≡◌ {A = Result (whole_parts.Certificate ℤ) j.Fault} (Ok (parts x)) (Ok (parts y)) → parts x ≡ parts y
      whole s = cc

  text_refusals : (e other : Ending) → TextRefuses bytes e → TextRefuses bytes other → e ≡ other
  text_refusals (Certified (Json x)) (Certified (Json y)) h k = ap (λ z. Certified (Json z)) (one_text_fault x y h k)
  text_refusals (Certified (Json x)) e h k = absurd k
  text_refusals e other h k = absurd h

  pub text_or_file : (e : Ending) (cert : Certificate) → TextRefuses bytes e → IsFile bytes cert → ⊥
  text_or_file (Certified (Json x)) cert h is = file_or_fault x cert h is
  text_or_file e cert h is = absurd h

  text_same : (Q T : Certificate → Answer → Type 0) → ((cert : Certificate) (a b : Answer) → Q cert a → T cert b → Same a b) → (a b : Answer) →
      Step no_names (TextRefuses bytes) (IsFile bytes) Q a → Step no_names (TextRefuses bytes) (IsFile bytes) T b → Same a b
  text_same Q T rest =
      steps_same no_names no_names (TextRefuses bytes) (TextRefuses bytes) (IsFile bytes) (IsFile bytes) Q T
      (record {
        refusals = λ e f r s. alike_same e f (text_refusals e f r s);
        not_left = text_or_file;
        not_right = λ cert e is h. text_or_file e cert h is;
        one = one_file;
      })
      (λ cert x y. rest cert)

pub certificate_same : (store : Store) (file : Text) (Q T : Certificate → Answer → Type 0) → ((cert : Certificate) (a b : Answer) → Q cert a → T cert b → Same a b) →
    (a b : Answer) → OfCertificate Complete store file Q a → OfCertificate Sound store file T b → Same a b
certificate_same store file Q T rest =
    file_same store w.Certificate file (λ bytes. Step no_names (TextRefuses bytes) (IsFile bytes) Q) (λ bytes. Step no_names (TextRefuses bytes) (IsFile bytes) T)
    (λ bytes. text_same bytes Q T rest)

-- ---- the check

-- of two places the first is one
one_place : (i k : ℕ) → (i < k → ⊥) → (k < i → ⊥) → i ≡ k
one_place i k a b = omega (arith, a, b)

one_row : (rows : List SparseRow) (i k : ℕ) → RowLeaves rows i → RowLeaves rows k → i ≡ k
one_row rows i k h g = one_place i k (λ less. h.leaves (g.before i h.row less h.there)) (λ less. g.leaves (h.before k g.row less g.there))

module _ (limit : Option What) (s : LinearSystem) (farkas : Entries) where
  abbrev Has : v.Fault → Type 0
  Has fault = v.VectorFault limit s farkas fault

  some_none : (what : What) → limit ≡ Some what → limit ≡ None → ⊥
  some_none what h k = absurd (cc)

  same_what : (x y : What) → limit ≡ Some x → limit ≡ Some y → x ≡ y
  same_what x y h k = cc

  no_or_leaves : (a b : ℕ) → IsVerdict (refuting s (v.vector_of s farkas)) (No a) → IsVerdict (refuting s (v.vector_of s farkas)) (Leaves b) → ⊥
  no_or_leaves a b h k = let same = one_first (refuting s (v.vector_of s farkas)) (No a) (Leaves b) h k in absurd (cc)

  same_column : (a b : ℕ) → IsVerdict (refuting s (v.vector_of s farkas)) (Leaves a) → IsVerdict (refuting s (v.vector_of s farkas)) (Leaves b) → a ≡ b
  same_column a b h k = let same = one_first (refuting s (v.vector_of s farkas)) (Leaves a) (Leaves b) h k in cc

  one_vector_fault : (x y : v.Fault) → Has x → Has y → x ≡ y
  one_vector_fault (v.TooLarge a) (v.TooLarge b) h k = ap v.TooLarge (same_what a b h k)
  one_vector_fault (v.TooLarge a) (v.Row b) h k = absurd (some_none a h k.0)
  one_vector_fault (v.TooLarge a) v.NotRefuted h k = absurd (some_none a h k.0)
  one_vector_fault (v.TooLarge a) (v.Refute b) h k = absurd (some_none a h k.0)
  one_vector_fault (v.Row a) (v.TooLarge b) h k = absurd (some_none b k h.0)
  one_vector_fault (v.Row a) (v.Row b) h k = ap v.Row (one_row s.rows a b h.1 k.1)
  one_vector_fault (v.Row a) v.NotRefuted h k = absurd (k.1 a h.1)
  one_vector_fault (v.Row a) (v.Refute b) h k = absurd (k.1 a h.1)
  one_vector_fault v.NotRefuted (v.TooLarge b) h k = absurd (some_none b k h.0)
  one_vector_fault v.NotRefuted (v.Row b) h k = absurd (h.1 b k.1)
  one_vector_fault v.NotRefuted v.NotRefuted h k = refl
  one_vector_fault v.NotRefuted (v.Refute b) h k = absurd (⊎_elim (λ none. none k.2) (λ some. no_or_leaves some.1 b some.2 k.3) h.2)
  one_vector_fault (v.Refute a) (v.TooLarge b) h k = absurd (some_none b k h.0)
  one_vector_fault (v.Refute a) (v.Row b) h k = absurd (h.1 b k.1)
  one_vector_fault (v.Refute a) v.NotRefuted h k = absurd (⊎_elim (λ none. none h.2) (λ some. no_or_leaves some.1 a some.2 h.3) k.2)
  one_vector_fault (v.Refute a) (v.Refute b) h k = ap v.Refute (same_column a b h.3 k.3)

module _ (N : Program) (cert : Certificate) where
  abbrev At : ℕ → v.Fault → Type 0
  At place fault = v.BlockFault N (generator_of N cert.degree) cert place fault

  same_block : (place : ℕ) (x y : Block) → slice_get cert.blocks place ≡ Some x → slice_get cert.blocks place ≡ Some y → x ≡ y
  same_block place x y h k = cc

  same_vector : (x y : Entries) (b : Body) → b ≡ Refuted x → b ≡ Refuted y → x ≡ y
  same_vector x y b h k = let s : Refuted x ≡ Refuted y = sym h ∙ k in cc

  abbrev Told : ℕ → Block → Entries → v.Fault → Type 0
  Told place block farkas fault =
      let s = system N cert.degree (before cert place) block.task (scale_for cert block.task.kind) in
      v.VectorFault (limit_of (generator_of N cert.degree) block.task s) s farkas fault

  one_block_fault : (place : ℕ) (x y : v.Fault) → At place x → At place y → x ≡ y
  one_block_fault place x y h k =
      let block = same_block place k.block h.block k.there h.there in
      let vector = same_vector k.farkas h.farkas h.block.body (ap (λ (b : Block). b.body) (sym block) ∙ k.refuted) h.refuted in
      let moved : Told place h.block h.farkas y = subst (λ es. Told place h.block es y) vector (subst (λ b. Told place b k.farkas y) block k.is) in
      let s = system N cert.degree (before cert place) h.block.task (scale_for cert h.block.task.kind) in
      one_vector_fault (limit_of (generator_of N cert.degree) h.block.task s) s h.farkas x y h.is moved

  -- what refuses the certificate: a fault of the check, or one of the vector of a block
  abbrev of_fault : f.Fault → Ending
  of_fault (f.Shape block) = Certified (e.Check (f.Shape block))
  of_fault (f.Fails block path index) = Certified (e.Check (f.Fails block path index))
  of_fault (f.Leaves block path index) = Overflows (InCheck block path index)
  of_fault (f.TooLarge task) = TooLarge task Indices

  abbrev of_vector : ℕ → Task → v.Fault → Ending
  of_vector place task v.NotRefuted = Certified (NotRefuted place)
  of_vector place task (v.TooLarge what) = TooLarge task what
  of_vector place task (v.Row row) = Overflows (OnTask task (p.Row row))
  of_vector place task (v.Refute column) = Overflows (OnTask task (p.Refute column))

  data Found (ending : Ending) : Type 0 where
    by_check : (x : f.Fault) → check.FirstFault N cert (Some x) → ending ≡ of_fault x → Found ending
    by_vector : (place : ℕ) (x : v.Fault) (block : Block) → slice_get cert.blocks place ≡ Some block → VectorFault N cert place x → ending ≡ of_vector place block.task x → Found ending

  task_found : (task : Task) (x : v.Fault) (ending : Ending) → TaskFault N cert task x → ((place : ℕ) → ending ≡ of_vector place task x) → Found ending
  task_found task x ending h is = by_vector h.place x h.block h.there h.has (is h.place ∙ ap (λ t. of_vector h.place t x) (sym h.is))

  found_by : (ending : Ending) → CheckRefuses N cert ending → Found ending
  found_by (Certified (e.Check (f.Shape block))) h = by_check (f.Shape block) h refl
  found_by (Certified (e.Check (f.Fails block path index))) h = by_check (f.Fails block path index) h refl
  found_by (Certified (e.Check (f.Leaves block path index))) h = absurd h
  found_by (Certified (e.Check (f.TooLarge task))) h = absurd h
  found_by (Certified (Json fault)) h = absurd h
  found_by (Certified (NotRefuted block)) h = by_vector block v.NotRefuted h.first.is.block h.first.is.there h refl
  found_by (TooLarge task what) (inl h) = by_check (f.TooLarge task) h.0 (ap (TooLarge task) h.1)
  found_by (TooLarge task what) (inr h) = task_found task (v.TooLarge what) (TooLarge task what) h (λ place. refl)
  found_by (Overflows (InCheck block path index)) h = by_check (f.Leaves block path index) h refl
  found_by (Overflows (OnTask task (p.Row row))) h = task_found task (v.Row row) _ h (λ place. refl)
  found_by (Overflows (OnTask task (p.Refute column))) h = task_found task (v.Refute column) _ h (λ place. refl)
  found_by (Overflows (OnTask task place)) h = absurd h
  found_by (Overflows (e.AtPoint meter)) h = absurd h
  found_by ending h = absurd h

  same_place : (i k : ℕ) (x y : v.Fault) → VectorFault N cert i x → VectorFault N cert k y → i ≡ k
  same_place i k x y h g = one_place i k (λ less. g.first.first i x less h.first.is) (λ less. h.first.first k y less g.first.is)

  one_found : (x y : Ending) → Found x → Found y → x ≡ y
  one_found x y (by_check a h is) (by_check b k are) =
      let s = one_first_fault N cert (Some a) (Some b) h k in
      let same : a ≡ b = cc in is ∙ ap of_fault same ∙ sym are
  one_found x y (by_check a h is) (by_vector place b block there k are) = let s = one_first_fault N cert (Some a) None h k.passes in absurd (cc)
  one_found x y (by_vector place a block there h is) (by_check b k are) = let s = one_first_fault N cert (Some b) None k h.passes in absurd (cc)
  one_found x y (by_vector i a block there h is) (by_vector k b other here g are) =
      let place = same_place i k a b h g in
      let moved = subst (λ z. slice_get cert.blocks z ≡ Some other) (sym place) here in
      let block_is = same_block i block other there moved in
      let fault = one_block_fault i a b h.first.is (subst (λ z. At z b) (sym place) g.first.is) in
      is ∙ (λ t. of_vector (place t) (block_is t).task (fault t)) ∙ sym are

  found_or_none : (IsFaultless N cert → check.FirstFault N cert None) → (x : Ending) → Found x → IsVerified N cert → ⊥
  found_or_none passes x (by_check a h is) ok = let s = one_first_fault N cert (Some a) None h (passes ok.faultless) in absurd (cc)
  found_or_none passes x (by_vector place a block there h is) ok = ok.clear place a h.first.is

  pub check_same : (IsFaultless N cert → check.FirstFault N cert None) → (P : Prog) (Q T : Answer → Type 0) → ((a b : Answer) → Q a → T b → Same a b) → (a b : Answer) →
      OfCheck Complete P N cert Q a → OfCheck Sound P N cert T b → Same a b
  check_same passes P Q T rest =
      steps_same (names_of P N) (names_of P N) (CheckRefuses N cert) (CheckRefuses N cert) (λ (done : Unit {0}). IsChecked Complete P N cert) (λ (done : Unit {0}). IsChecked Sound P N cert) (λ done. Q) (λ done. T)
      (record {
        refusals = λ x y r s. alike_same x y (one_found x y (found_by x r) (found_by y s));
        not_left = λ x done r ok. found_or_none passes x (found_by x r) ok.verified;
        not_right = λ done x ok r. found_or_none passes x (found_by x r) ok.verified;
        one = λ x y a b. unit x y;
      })
      (λ done x y. rest)
    where
      unit : (x y : Unit {0}) → x ≡ y
      unit x y = refl
