-- What reading a file gives.
use Rattle.std.proofs.Common.{rules, ◌≡◌, ◌⊎◌, ℕ, ◌^◌, ◌<◌, length, codes, Bool, false, cond, List, Option, Some, None, Result, Ok, Err, IfOk, refl, sym, ap, subst, ◌∙◌, ⊎_elim}
use Rattle.std.specs.Prelude.{IfErr, IsErrAnd, MatchResult, IsUtf8, is_some, ◌≤◌, Vec}
use Rattle.std.specs.Global.{Global}
use Rattle.std.proofs.lemmas.Str.{IsUtf8-append, IsUtf8-from_ascii}
use Rattle.serde_json.specs.Data.{Data, depth}
use Rattle.serde_json.specs.Read.{read, max_depth}
use Rattle.serde_json.specs.Written.{compact_text, has_float}
use Rattle.std.specs.Fmt.{signed_decimal}
use Rattle.annot_types.specs.Certificate as c
use Rattle.annot_types.specs.Read.{certificate_of}
use Rattle.annot_types.specs.declared.block.Certificate.{Certificate}
use Rattle.cert_json.specs.Parts.{parts}
use Rattle.cert_json.specs.Read.{parts_of}
use Rattle.cert_json.specs.Form.{certificate_json}
use Rattle.cert_json.specs.Numbers.{Wide, CertificateHas}
use Rattle.cert_json.specs.Faults as f
use Rattle.cert_json.specs.Faults.{HasParts, Refuses}
use Rattle.cert_json.specs.Steps.{fault_at, read_certificate}
use Rattle.cert_json.specs.Told.{json_of, text_of, place_of, TellsFault, Tells, IsWritten, IsComplete, IsFile, IsTold, IsRefused, RefusedBy, Cause}
use Rattle.cert_json.specs.declared.whole.Place.{Place}
use Rattle.cert_json.specs.declared.whole.JsonFault.{JsonFault}
use Rattle.cert_json.specs.declared.whole.JsonFault.TheVariants.{NotJson, Shape, Number, NoMemory}
use Rattle.cert_json.proofs.Plain.{no_float, shallow}
use Rattle.cert_json.proofs.Parted.{parts_are, undone_whole, parts_tell}
use Rattle.cert_json.proofs.Lined.{lined, read_lined}
use Rattle.cert_json.proofs.Fitted.{certificate_fits}
use Rattle.cert_json.proofs.Alone.{refusal, refused_is}
use Rattle.cert_json.proofs.Unique.{read_is_written}
use Rattle.cert_json.proofs.Certificates.{certificate_sound, certificate_complete, certificate_refused}

-- ---- what is written

abbrev json : Certificate → Data
json cert = certificate_json signed_decimal (parts_of cert)

json_is : (cert : Certificate) → json cert ≡ json_of (certificate_of cert)
json_is cert = ap (certificate_json signed_decimal) (sym (parts_are cert))

pub has_text : {E : Type 0} (r : Result (Vec ℕ Global) E) (d : Data) (cert : Certificate) → d ≡ json cert
    → IfOk r (λ b. has_float d ≡ false → b.items ≡ compact_text d) → IfOk r (λ b. b.items ≡ text_of (certificate_of cert))
has_text (Ok b) d cert e h = h (ap has_float e ∙ no_float signed_decimal (parts_of cert)) ∙ ap compact_text (e ∙ json_is cert)
has_text (Err x) d cert e h = tt

pub is_written : {E : Type 0} (r : Result (Vec ℕ Global) E) (d : Data) (cert : Certificate) → d ≡ json cert → CertificateHas Wide (parts_of cert)
    → IfOk r (λ b. IsUtf8 b.items) → IfOk r (λ b. depth d ≤ max_depth → read b.items ≡ Some d) → IfOk r (λ b. IsWritten b.items (certificate_of cert))
is_written (Ok b) d cert e n u h = record {
  text = u;
  json = h (subst (λ d. depth d ≤ max_depth) (sym e) (shallow signed_decimal (parts_of cert))) ∙ ap Some (e ∙ json_is cert);
  numbers = subst (CertificateHas Wide) (sym (parts_are cert)) n;
}
is_written (Err x) d cert e n u h = tt

-- with a line feed behind it, it is a file
file_of : (bytes : List ℕ) (cert : c.Certificate) → bytes ≡ text_of cert → IsWritten bytes cert → IsComplete cert → length bytes < 2 ^ 31 → IsFile (lined bytes) cert
file_of bytes cert e w i h = record {
  text = IsUtf8-append bytes (codes "\n") w.text (IsUtf8-from_ascii (codes "\n") (search rules));
  value = json_of cert;
  read = read_lined bytes ∙ w.json;
  is = certificate_fits (parts cert) (subst IsComplete (sym (undone_whole cert)) i) w.numbers (record { text = subst (λ b. length b < 2 ^ 31) e h });
}

pub is_file : {E : Type 0} (r : Result (Vec ℕ Global) E) (cert : c.Certificate) → IfOk r (λ b. b.items ≡ text_of cert) → IfOk r (λ b. IsWritten b.items cert)
    → IfOk r (λ b. IsComplete cert → length b.items < 2 ^ 31 → IsFile (lined b.items) cert)
is_file (Ok b) cert e w = file_of b.items cert e w
is_file (Err x) cert e w = tt

-- ---- what is read

pub record Answers (bytes : List ℕ) (r : Result Certificate JsonFault) : Type 0 where
  pub is_read : IfOk r (λ found. IsFile bytes (certificate_of found))
  pub exact : (cert : c.Certificate) → IsFile bytes cert → MatchResult r (λ found. certificate_of found ≡ cert) (λ e. e ≡ NoMemory)
  pub refused : IfErr r (λ e. Cause bytes e)
  pub faults : (x : f.Fault) → RefusedBy bytes x → IsErrAnd r (IsTold x)
  pub back : (cert : c.Certificate) → IsWritten bytes cert → IfOk r (λ found. certificate_of found ≡ cert)

some_inv : {A : Type 0} {x y : A} → Some x ≡ Some y → x ≡ y
some_inv h = cc

complete : (bytes : List ℕ) (d : Data) (cert : c.Certificate) → read bytes ≡ Some d → IsFile bytes cert → read_certificate d ≡ Ok (parts cert)
complete bytes d cert e h =
    let same : h.value ≡ d = some_inv (sym h.read ∙ e) in
    certificate_complete d (parts cert) (subst (λ d. HasParts d (parts cert)) same h.is)

forced_at : (bytes : List ℕ) (d : Data) (x : f.Fault) → read bytes ≡ Some d → IsRefused bytes x → read_certificate d ≡ Err x
forced_at bytes d x e h = let same : h.1 ≡ d = some_inv (sym h.2 ∙ e) in refused_is d x (subst (λ d. Refuses d x) same h.3)

forced : (bytes : List ℕ) (d : Data) (x : f.Fault) → IsUtf8 bytes → read bytes ≡ Some d → RefusedBy bytes x → read_certificate d ≡ Err x
forced bytes d f.NotJson u e h = absurd (h u d e)
forced bytes d (f.Shape place) u e h = forced_at bytes d (f.Shape place) e h
forced bytes d (f.Number place) u e h = forced_at bytes d (f.Number place) e h

same_fault : (x y : f.Fault) → refusal x ≡ refusal y → x ≡ y
same_fault x y e = cc

found_is : (found : Certificate) (cert : c.Certificate) → parts_of found ≡ parts cert → certificate_of found ≡ cert
found_is found cert e = parts_tell (certificate_of found) cert (parts_are found ∙ e)

abbrev the_ok : (E : Type 0) {A : Type 0} → A → Result A E
the_ok E x = Ok x

ok_inv : {E A : Type 0} {x y : A} → the_ok E x ≡ the_ok E y → x ≡ y
ok_inv h = cc

pub value_answers : (bytes : List ℕ) (d : Data) (r : Result Certificate JsonFault) → IsUtf8 bytes → read bytes ≡ Some d → Tells parts_of r (read_certificate d) → Answers bytes r
value_answers bytes d (Ok found) u e t = record {
  is_read = record { text = u; value = d; read = e; is = subst (HasParts d) (sym (parts_are found)) (certificate_sound d (parts_of found) t) };
  exact = λ cert h. found_is found cert (ok_inv (sym t ∙ complete bytes d cert e h));
  refused = tt;
  faults = λ x h. let k = forced bytes d x u e h in absurd (cc);
  back = λ cert w. let same : d ≡ json_of cert = some_inv (sym e ∙ w.json) in
      found_is found cert (read_is_written d (parts_of found) (parts cert) (certificate_sound d (parts_of found) t) w.numbers same);
}
value_answers bytes d (Err NotJson) u e t = absurd t
value_answers bytes d (Err (Shape place)) u e t = record {
  is_read = tt;
  exact = λ cert h. let k = complete bytes d cert e h in absurd (cc);
  refused = (u, d, e, certificate_refused d (f.Shape (place_of place)) t);
  faults = λ x h. same_fault x (f.Shape (place_of place)) (sym (forced bytes d x u e h) ∙ t);
  back = λ cert w. tt;
}
value_answers bytes d (Err (Number place)) u e t = record {
  is_read = tt;
  exact = λ cert h. let k = complete bytes d cert e h in absurd (cc);
  refused = (u, d, e, certificate_refused d (f.Number (place_of place)) t);
  faults = λ x h. same_fault x (f.Number (place_of place)) (sym (forced bytes d x u e h) ∙ t);
  back = λ cert w. tt;
}
value_answers bytes d (Err NoMemory) u e t = record { is_read = tt; exact = λ cert h. refl; refused = tt; faults = λ x h. tt; back = λ cert w. tt }

-- bytes that give no value
no_json : (bytes : List ℕ) (x : f.Fault) → RefusedBy bytes f.NotJson → RefusedBy bytes x → x ≡ f.NotJson
no_json bytes f.NotJson n h = refl
no_json bytes (f.Shape place) n h = absurd (n h.0 h.1 h.2)
no_json bytes (f.Number place) n h = absurd (n h.0 h.1 h.2)

none_answers : (bytes : List ℕ) → RefusedBy bytes f.NotJson → Answers bytes (Err NotJson)
none_answers bytes n = record {
  is_read = tt;
  exact = λ cert h. absurd (n h.text h.value h.read);
  refused = n;
  faults = λ x h. no_json bytes x n h;
  back = λ cert w. tt;
}

no_value : (bytes : List ℕ) → (IsUtf8 bytes → read bytes ≡ None) → RefusedBy bytes f.NotJson
no_value bytes h u d e = let k : None ≡ Some d = sym (h u) ∙ e in absurd (cc)

no_memory : (bytes : List ℕ) → Answers bytes (Err NoMemory)
no_memory bytes = record { is_read = tt; exact = λ cert h. refl; refused = tt; faults = λ x h. tt; back = λ cert w. tt }

-- what is told where the bytes give no value, be it for want of memory
pub unread_answers : (bytes : List ℕ) (M : Type 0) (x : JsonFault) → ((M → ⊥) → IsUtf8 bytes → read bytes ≡ None) → ((M × (x ≡ NoMemory)) ⊎ ((M → ⊥) × (x ≡ NotJson))) → Answers bytes (Err x)
unread_answers bytes M x h e =
    ⊎_elim (λ k. subst (λ x. Answers bytes (Err x)) (sym k.1) (no_memory bytes))
    (λ k. subst (λ x. Answers bytes (Err x)) (sym k.1) (none_answers bytes (no_value bytes (h k.0)))) e

-- a fault is told at its place
pub told : {A B : Type 0} (x : JsonFault) (like : Bool) (o : Option A) (p : Place) (r : Result B f.Fault) → x ≡ cond like (Number p) (Shape p) → like ≡ is_some o → r ≡ Err (fault_at o (place_of p)) → TellsFault x r
told {A} {B} x like None p r h k e = subst (λ y. TellsFault {B = B} y r) (sym (h ∙ ap (λ b. cond b (Number p) (Shape p)) k)) e
told {A} {B} x like (Some a) p r h k e = subst (λ y. TellsFault {B = B} y r) (sym (h ∙ ap (λ b. cond b (Number p) (Shape p)) k)) e
