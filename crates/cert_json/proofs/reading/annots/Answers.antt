use Rattle.serde_json.specs.View.{view}
use Rattle.cert_json.specs.Reading.{annot_of, number_of}
use Rattle.cert_json.proofs.Walked.{read_none, read_one, read_all}
use Rattle.cert_json.proofs.reading.annots.Goals as goal

pub returns-in_default-2 : goal.returns-in_default-2
returns-in_default-2 c = read_none (annot_of number_of) view _ c.loop-item.found.items c.in-Some.items.now _ c.item-item.result c.in-Some.ensures c.loop-item-test.true c.item-item.is (rw c.in_default-2.is at c.in_ok-annot.ensures) c.loop-item.invariant

pub loop-item-preserved : goal.loop-item-preserved
loop-item-preserved c = read_one (annot_of number_of) view _ c.loop-item.found.items c.push.new.self.items c.in-Some.items.now _ c.item-item.result c.in-Some-2.annot c.loop-item-test.true c.item-item.is (rw c.in-Some-2.is at c.in_ok-annot.ensures) c.in_ok-push.ensures.items c.loop-item.invariant

pub returns : goal.returns
returns c = read_all (annot_of number_of) view _ c.loop-item.found.items c.in-Some.items.now _ c.in-Some.ensures c.loop-item-test.false c.loop-item.invariant
