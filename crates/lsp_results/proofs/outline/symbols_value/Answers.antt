use Rattle.lsp_results.specs.Outline.{symbol_json}
use Rattle.lsp_results.proofs.Listed.{one_more, all_made}
use Rattle.lsp_results.proofs.outline.symbols_value.Goals as goal

pub loop-symbol-preserved : goal.loop-symbol-preserved
loop-symbol-preserved c =
    one_more (symbol_json c.args.encoding c.args.document.now.text) c.loop-symbol.items.items c.push.new.list.items c.in_ok-symbol_value.field-0 c.args.symbols.now c.loop-symbol.symbol-index c.symbol-item.result
    c.loop-symbol-test.true c.symbol-item.is c.in_ok-push.ensures.ok c.in_ok-symbol_value.ensures c.loop-symbol.invariant

pub returns : goal.returns
returns c = all_made (symbol_json c.args.encoding c.args.document.now.text) c.loop-symbol.items c.args.symbols.now c.loop-symbol.symbol-index c.loop-symbol-test.false c.loop-symbol.invariant
