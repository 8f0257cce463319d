use Rattle.lsp_results.specs.Diagnostics.{diagnostic_json}
use Rattle.lsp_results.proofs.Listed.{one_more, all_made}
use Rattle.lsp_results.proofs.diagnostic.all_diagnostics_value.Goals as goal

pub loop-diagnostic-preserved : goal.loop-diagnostic-preserved
loop-diagnostic-preserved c =
    one_more (diagnostic_json c.args.encoding c.args.document.now.text c.args.uri.now) c.loop-diagnostic.items.items c.push.new.list.items c.in_ok-diagnostic_value.field-0 c.args.diagnostics.now c.loop-diagnostic.diagnostic-index c.diagnostic-item.result
    c.loop-diagnostic-test.true c.diagnostic-item.is c.in_ok-push.ensures.ok c.in_ok-diagnostic_value.ensures c.loop-diagnostic.invariant

pub returns : goal.returns
returns c = all_made (diagnostic_json c.args.encoding c.args.document.now.text c.args.uri.now) c.loop-diagnostic.items c.args.diagnostics.now c.loop-diagnostic.diagnostic-index c.loop-diagnostic-test.false c.loop-diagnostic.invariant
