use Rattle.std.proofs.Common.{◌≡◌, ◌++◌, drop, codes, string_bytes}
use Rattle.explain_algebra.specs.Algebra.{led}
use Rattle.explain_at.specs.Read.{texts}
use Rattle.explain_insight.proofs.parameter.push_more.Given as goal

abbrev pub invariant-loop-name : goal.invariant-loop-name
invariant-loop-name l =
    string_bytes l.text ++ led (codes ", ") (texts (drop l.name-index l.names)) ≡ string_bytes l.initial.text ++ led (codes ", ") (texts l.names)
