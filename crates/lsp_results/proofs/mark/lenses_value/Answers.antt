use Rattle.lsp_results.specs.Marks.{lens_json}
use Rattle.lsp_results.proofs.Listed.{one_more, all_made}
use Rattle.lsp_results.proofs.mark.lenses_value.Goals as goal

pub loop-lens-preserved : goal.loop-lens-preserved
loop-lens-preserved c =
    one_more (lens_json c.args.encoding c.args.document.now.text) c.loop-lens.items.items c.push.new.list.items c.in_ok-lens_value.field-0 c.args.lenses.now c.loop-lens.lens-index c.lens-item.result
    c.loop-lens-test.true c.lens-item.is c.in_ok-push.ensures.ok c.in_ok-lens_value.ensures c.loop-lens.invariant

pub returns : goal.returns
returns c = all_made (lens_json c.args.encoding c.args.document.now.text) c.loop-lens.items c.args.lenses.now c.loop-lens.lens-index c.loop-lens-test.false c.loop-lens.invariant
