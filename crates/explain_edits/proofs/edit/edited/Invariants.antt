use Rattle.std.proofs.Common.{◌≡◌, ◌++◌, drop}
use Rattle.explain_edits.specs.Edits.{edited_from, with_edits}
use Rattle.explain_edits.specs.Read.{edits_of}
use Rattle.explain_edits.proofs.edit.edited.Given as goal

abbrev pub invariant-loop-edit : goal.invariant-loop-edit
invariant-loop-edit l = l.text.items ++ edited_from l.source l.from (edits_of (drop l.edit-index l.edits)) ≡ with_edits l.source (edits_of l.edits)
