use Rattle.std.proofs.Common.{◌≡◌, ◌++◌, drop, string_bytes}
use Rattle.raml_syntax.specs.Tree.{Text}
use Rattle.explain_profile.specs.Read.{case_of}
use Rattle.explain_profile.proofs.Laid.{EndsRows}
use Rattle.explain_profile.proofs.table.push_rows.Given as goal

abbrev pub invariant-loop-row : goal.invariant-loop-row
invariant-loop-row l =
    (part : Text) × EndsRows (case_of l.case) (drop l.row-index l.rows) l.rows part × (string_bytes l.text ≡ string_bytes l.fn.text ++ part)
