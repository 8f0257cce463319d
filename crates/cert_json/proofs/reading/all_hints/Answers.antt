use Rattle.std.proofs.Common.{map, ap, ◌∙◌, ◌∷◌, []}
use Rattle.std.proofs.lemmas.List.{map-append}
use Rattle.serde_json.specs.View.{view}
use Rattle.cert_json.specs.Read.{hints_of}
use Rattle.cert_json.specs.Reading as spec
use Rattle.cert_json.specs.Reading.{number_of}
use Rattle.cert_json.proofs.Walked.{read_none, read_one, read_all}
use Rattle.cert_json.proofs.reading.all_hints.Goals as goal

pub returns-in_default-2 : goal.returns-in_default-2
returns-in_default-2 c = read_none (spec.each_of (spec.hint_of number_of)) view _ (map hints_of c.loop-item.found.items) c.in-Some.items.now _ c.item-item.result c.in-Some.ensures c.loop-item-test.true c.item-item.is (rw c.in_default-2.is at c.in_ok-hints.ensures) c.loop-item.invariant

pub loop-item-preserved : goal.loop-item-preserved
loop-item-preserved c = read_one (spec.each_of (spec.hint_of number_of)) view _ (map hints_of c.loop-item.found.items) (map hints_of c.push.new.self.items) c.in-Some.items.now _ c.item-item.result (hints_of c.in-Some-2.hints) c.loop-item-test.true c.item-item.is (rw c.in-Some-2.is at c.in_ok-hints.ensures) (ap (map hints_of) c.in_ok-push.ensures.items ∙ map-append hints_of c.loop-item.found.items (c.in-Some-2.hints ∷ [])) c.loop-item.invariant

pub returns : goal.returns
returns c = read_all (spec.each_of (spec.hint_of number_of)) view _ (map hints_of c.loop-item.found.items) c.in-Some.items.now _ c.in-Some.ensures c.loop-item-test.false c.loop-item.invariant
