use Rattle.std.proofs.Common.{ap, map, subst, ◌∙◌}
use Rattle.std.specs.Fmt.{signed_decimal}
use Rattle.serde_json.specs.View.{view}
use Rattle.cert_json.specs.Read.{hint_of, hints_of}
use Rattle.cert_json.specs.Form.{hints_json}
use Rattle.cert_json.specs.Numbers.{Wide, HintsHave}
use Rattle.cert_json.proofs.Walked.{same_step, each_same}
use Rattle.cert_json.proofs.writing.all_hints_json.Goals as goal

pub loop-hints-preserved : goal.loop-hints-preserved
loop-hints-preserved c = record {
  same = same_step view (hints_json signed_decimal) hints_of c.loop-hints.items.items c.push.new.list.items c.in_ok-hints_json.field-0 c.args.hints.now _ c.hints-item.result c.loop-hints-test.true c.hints-item.is c.in_ok-push.ensures.ok (c.in_ok-hints_json.ensures.value ∙ ap (λ hs. hints_json signed_decimal (map hint_of hs)) c.deref.ensures.value) c.loop-hints.invariant.same;
  numbers = each_same (HintsHave Wide) hints_of c.args.hints.now _ c.hints-item.result c.loop-hints-test.true c.hints-item.is c.loop-hints.invariant.numbers (subst (λ hs. HintsHave Wide (map hint_of hs)) c.deref.ensures.value c.in_ok-hints_json.ensures.numbers);
}
