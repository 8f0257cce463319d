use Rattle.std.proofs.Common.{◌≡◌, ◌∙◌, subst, None}
use Rattle.std.specs.Prelude.{MatchResult}
use Rattle.cert_json.specs.Reading.{number_by, number_of}
use Rattle.cert_json.proofs.Numbers.{number_parsed}
use Rattle.cert_json.proofs.reading.number_in.Goals as goal

pub returns-in-Ok : goal.returns-in-Ok
returns-in-Ok c =
    let s = c.args.text.now in
    c.number_by.ensures ∙ subst (λ r. MatchResult r (λ n. number_by n s ≡ number_of s) (λ _. None ≡ number_of s)) c.in-Ok.is (number_parsed s c.parse.result c.parse.ensures.value.0)

pub returns-in-Err : goal.returns-in-Err
returns-in-Err c =
    let s = c.args.text.now in
    subst (λ r. MatchResult r (λ n. number_by n s ≡ number_of s) (λ _. None ≡ number_of s)) c.in-Err.is (number_parsed s c.parse.result c.parse.ensures.value.0)
