use Rattle.std.proofs.Common.{◌≡◌, Some, sym, subst, ◌∙◌}
use Rattle.std.specs.Prelude.{option_map}
use Rattle.serde_json.specs.View.{view}
use Rattle.cert_json.specs.Reading.{number_of, head_of}
use Rattle.cert_json.specs.Read.{head_and_items}
use Rattle.cert_json.specs.Steps.{read_certificate}
use Rattle.cert_json.specs.declared.whole.Place.TheVariants as place
use Rattle.cert_json.proofs.Likenesses.{heads_like}
use Rattle.cert_json.proofs.Certificates.{heads_none}
use Rattle.cert_json.proofs.Answering.{told}
use Rattle.cert_json.proofs.whole.certificate.Goals as goal

pub returns-in_ok-like_head-in-None : goal.returns-in_ok-like_head-in-None
returns-in_ok-like_head-in-None c =
    let d = view c.args.value.now in
    let none = sym (subst (λ o. option_map head_and_items o ≡ head_of number_of d) c.in-None.is c.in_ok-head.ensures) in
    told c.fault_at.result c.in_ok-like_head-in-None.field-0 (head_of Some d) place.Head (read_certificate d) c.fault_at.ensures (c.in_ok-like_head-in-None.ensures ∙ heads_like d) (heads_none d none)
