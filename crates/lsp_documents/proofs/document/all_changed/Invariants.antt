use Rattle.std.proofs.Common.{◌≡◌, drop}
use Rattle.lsp_documents.specs.Changes.{all_changed, replacements}
use Rattle.lsp_documents.proofs.document.all_changed.Given as goal

abbrev pub invariant-loop-change : goal.invariant-loop-change
invariant-loop-change l = all_changed l.encoding l.next (replacements (drop l.change-index l.changes)) ≡ all_changed l.encoding l.text (replacements l.changes)
