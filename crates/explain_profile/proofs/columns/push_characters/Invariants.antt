use Rattle.std.proofs.Common.{◌≡◌, ◌++◌, string_bytes}
use Rattle.raml_syntax.specs.Tree.{Text}
use Rattle.explain_profile.proofs.columns.push_characters.Given as goal

abbrev pub invariant-loop-c : goal.invariant-loop-c
invariant-loop-c l = (rest : Text) × (string_bytes l.text ≡ string_bytes l.fn.text ++ rest)
