use Rattle.std.proofs.Common.{subst}
use Rattle.annot_types.specs.Read.{certificate_of}
use Rattle.cert_json.specs.Told.{IsFile, Cause}
use Rattle.refusal_text.specs.declared.plain.Which.TheVariants as w
use Rattle.refusals.specs.Line.{no_names}
use Rattle.raml_promise.specs.Outside.{store_of}
use Rattle.raml_promise.specs.Analysis.{TextRefuses}
use Rattle.raml_parts.specs.Parts.{FileRefuses, CertificateRefuses}
use Rattle.raml_parts.proofs.Stepping.{refuses_map, by_file, by_bytes}
use Rattle.raml_parts.proofs.Refusing.{json_refuses}
use Rattle.raml_parts.proofs.verification.read_certificate.Goals as goal

pub returns-in-Ok-read-clause-ok : goal.returns-in-Ok-read-clause-ok
returns-in-Ok-read-clause-ok g c before = record {
  bytes = c.in-Ok.bytes.items;
  within = c.in-Ok.ensures.ok before;
  is = subst (λ bytes. IsFile bytes (certificate_of c.in-Ok-read.certificate)) c.deref.ensures.value c.in-Ok-read.ensures.read;
}

pub returns-in-Ok-clause-err : goal.returns-in-Ok-clause-err
returns-in-Ok-clause-err g c before earlier =
    let store = store_of (g.S.Store.holds c.args.store.now) before (g.S.Store.faults c.read_file.new.store) in
    let bytes = c.in-Ok.bytes.items in
    refuses_map no_names (TextRefuses bytes) (CertificateRefuses store c.args.file.now) (by_bytes store w.Certificate c.args.file.now TextRefuses IsFile bytes (c.in-Ok.ensures.ok before)) c.json_refusal.result
    (json_refuses bytes c.in-Err-read.fault (subst (λ b. Cause b c.in-Err-read.fault) c.deref.ensures.value c.in-Err-read.ensures.refused) c.json_refusal.result c.json_refusal.ensures)

pub returns-clause-err : goal.returns-clause-err
returns-clause-err g c before earlier =
    let store = store_of (g.S.Store.holds c.args.store.now) before (g.S.Store.faults c.read_file.new.store) in
    refuses_map no_names (FileRefuses store w.Certificate c.args.file.now) (CertificateRefuses store c.args.file.now) (by_file store w.Certificate c.args.file.now TextRefuses IsFile) c.in-Err.refusal (c.in-Err.ensures.err before earlier)
