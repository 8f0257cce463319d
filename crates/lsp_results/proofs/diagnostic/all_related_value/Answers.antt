use Rattle.lsp_results.specs.Diagnostics.{related_json}
use Rattle.lsp_results.proofs.Listed.{one_more, all_made}
use Rattle.lsp_results.proofs.diagnostic.all_related_value.Goals as goal

pub loop-one-preserved : goal.loop-one-preserved
loop-one-preserved c =
    one_more (related_json c.args.encoding c.args.document.now.text c.args.uri.now) c.loop-one.items.items c.push.new.list.items c.in_ok-related_value.field-0 c.args.related.now c.loop-one.one-index c.one-item.result
    c.loop-one-test.true c.one-item.is c.in_ok-push.ensures.ok c.in_ok-related_value.ensures c.loop-one.invariant

pub returns : goal.returns
returns c = all_made (related_json c.args.encoding c.args.document.now.text c.args.uri.now) c.loop-one.items c.args.related.now c.loop-one.one-index c.loop-one-test.false c.loop-one.invariant
