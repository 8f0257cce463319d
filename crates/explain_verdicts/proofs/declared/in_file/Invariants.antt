use Rattle.std.proofs.Common.{◌≡◌, ◌++◌, drop, map, codes, string_bytes}
use Rattle.explain_algebra.specs.Steps.{marked}
use Rattle.explain_verdicts.specs.Reads.{fraction_text, in_file}
use Rattle.explain_verdicts.proofs.declared.in_file.Given as goal

abbrev pub invariant-loop-fraction : goal.invariant-loop-fraction
invariant-loop-fraction l =
    string_bytes l.text ++ marked l.is_first (codes " + ") (map fraction_text (drop l.fraction-index l.fractions)) ≡ in_file l.fractions
