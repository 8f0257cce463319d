use Rattle.std.proofs.Common.{◌≡◌, ◌++◌, string_bytes, drop}
use Rattle.raml_syntax.specs.Tree.{Text}
use Rattle.explain_check.proofs.Longer.{Later}
use Rattle.explain_check.proofs.Telling.{AreSoFar}
use Rattle.explain_check.proofs.files.check_files.Given as goal

abbrev pub invariant-loop-name : goal.invariant-loop-name
invariant-loop-name g l =
    (g.S.Store.holds l.store ≡ g.S.Store.holds l.fn.store) × Later (g.S.Store.faults l.fn.store) (g.S.Store.faults l.store) ×
    ((part : Text) × AreSoFar (g.S.Store.holds l.fn.store) (g.S.Store.faults l.fn.store) (g.S.Store.faults l.store) l.names (drop l.name-index l.names) l.verdict part × (string_bytes l.report ≡ string_bytes l.fn.report ++ part))
