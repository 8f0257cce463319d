use Rattle.std.proofs.Common.{ap, subst, ◌∙◌}
use Rattle.std.specs.Fmt.{signed_decimal}
use Rattle.serde_json.specs.View.{view}
use Rattle.cert_json.specs.Form.{entries_json}
use Rattle.cert_json.specs.Numbers.{Wide, EntriesHave}
use Rattle.cert_json.proofs.Walked.{plain_step, each_plain}
use Rattle.cert_json.proofs.writing.annots_json.Goals as goal

pub loop-annot-preserved : goal.loop-annot-preserved
loop-annot-preserved c = record {
  same = plain_step view (entries_json signed_decimal) c.loop-annot.items.items c.push.new.list.items c.in_ok-entries_json.field-0 c.args.annots.now _ c.annot-item.result c.loop-annot-test.true c.annot-item.is c.in_ok-push.ensures.ok (c.in_ok-entries_json.ensures.value ∙ ap (entries_json signed_decimal) c.entries.ensures.all) c.loop-annot.invariant.same;
  numbers = each_plain (EntriesHave Wide) c.args.annots.now _ c.annot-item.result c.loop-annot-test.true c.annot-item.is c.loop-annot.invariant.numbers (subst (EntriesHave Wide) c.entries.ensures.all c.in_ok-entries_json.ensures.numbers);
}
