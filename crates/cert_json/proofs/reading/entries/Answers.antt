use Rattle.serde_json.specs.View.{view}
use Rattle.cert_json.specs.Reading.{entry_of, number_of}
use Rattle.cert_json.proofs.Walked.{read_none, read_one, read_all}
use Rattle.cert_json.proofs.reading.entries.Goals as goal

pub returns-in_default-entry : goal.returns-in_default-entry
returns-in_default-entry c = read_none (entry_of number_of) view _ c.loop-item.found.items c.in-Some.items.now _ c.item-item.result c.in-Some.ensures c.loop-item-test.true c.item-item.is (rw c.in_default-entry.is at c.entry.ensures) c.loop-item.invariant

pub loop-item-preserved : goal.loop-item-preserved
loop-item-preserved c = read_one (entry_of number_of) view _ c.loop-item.found.items c.push.new.self.items c.in-Some.items.now _ c.item-item.result c.in-Some-entry.entry c.loop-item-test.true c.item-item.is (rw c.in-Some-entry.is at c.entry.ensures) c.in_ok-push.ensures.items c.loop-item.invariant

pub returns : goal.returns
returns c = read_all (entry_of number_of) view _ c.loop-item.found.items c.in-Some.items.now _ c.in-Some.ensures c.loop-item-test.false c.loop-item.invariant
