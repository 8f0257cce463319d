use Rattle.std.proofs.Common.{ap, Err, arith}
use Rattle.lsp_documents.proofs.Changing.{changed_more, changed_no_more, all_made, of_error}
use Rattle.lsp_documents.proofs.document.all_changed.Goals as goal

pub returns-in_err-next-2-clause-refused : goal.returns-in_err-next-2-clause-refused
returns-in_err-next-2-clause-refused c e =
    changed_no_more c.args.encoding c.args.changes.now c.loop-change.change-index c.change-item.result c.loop-change.next _ (omega arith) c.change-item.is
    (c.in_err-next-2.ensures.refused (ap Err (of_error _ _ _ c.from_residual-in_err-next-2.ensures.1 e)))
    c.loop-change.invariant

pub loop-change-preserved : goal.loop-change-preserved
loop-change-preserved c =
    changed_more c.args.encoding c.args.changes.now c.loop-change.change-index c.change-item.result c.loop-change.next c.in_ok-next-2.next _ (omega arith)
    c.change-item.is c.in_ok-next-2.ensures.changed c.loop-change.invariant

pub returns-clause-changed : goal.returns-clause-changed
returns-clause-changed c = all_made c.args.encoding c.args.changes.now c.loop-change.change-index c.loop-change.next _ (omega arith) c.loop-change.invariant
