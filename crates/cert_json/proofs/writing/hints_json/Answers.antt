use Rattle.std.specs.Fmt.{signed_decimal}
use Rattle.serde_json.specs.View.{view}
use Rattle.cert_json.specs.Read.{hint_of}
use Rattle.cert_json.specs.Form.{hint_json}
use Rattle.cert_json.specs.Numbers.{Wide, HintHas}
use Rattle.cert_json.proofs.Walked.{same_step, each_same}
use Rattle.cert_json.proofs.writing.hints_json.Goals as goal

pub loop-hint-preserved : goal.loop-hint-preserved
loop-hint-preserved c = record {
  same = same_step view (hint_json signed_decimal) hint_of c.loop-hint.items.items c.push.new.list.items c.in_ok-hint_json.field-0 c.args.hints.now _ c.hint-item.result c.loop-hint-test.true c.hint-item.is c.in_ok-push.ensures.ok c.in_ok-hint_json.ensures.value c.loop-hint.invariant.same;
  numbers = each_same (HintHas Wide) hint_of c.args.hints.now _ c.hint-item.result c.loop-hint-test.true c.hint-item.is c.loop-hint.invariant.numbers c.in_ok-hint_json.ensures.numbers;
}
