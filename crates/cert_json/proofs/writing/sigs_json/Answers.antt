use Rattle.std.specs.Fmt.{signed_decimal}
use Rattle.serde_json.specs.View.{view}
use Rattle.cert_json.specs.Read.{sig_of}
use Rattle.cert_json.specs.Form.{sig_json}
use Rattle.cert_json.specs.Numbers.{Wide, SigHas}
use Rattle.cert_json.proofs.Walked.{same_step, each_same}
use Rattle.cert_json.proofs.writing.sigs_json.Goals as goal

pub loop-sig-preserved : goal.loop-sig-preserved
loop-sig-preserved c = record {
  same = same_step view (sig_json signed_decimal) sig_of c.loop-sig.items.items c.push.new.list.items c.in_ok-sig_json.field-0 c.args.sigs.now _ c.sig-item.result c.loop-sig-test.true c.sig-item.is c.in_ok-push.ensures.ok c.in_ok-sig_json.ensures.value c.loop-sig.invariant.same;
  numbers = each_same (SigHas Wide) sig_of c.args.sigs.now _ c.sig-item.result c.loop-sig-test.true c.sig-item.is c.loop-sig.invariant.numbers c.in_ok-sig_json.ensures.numbers;
}
