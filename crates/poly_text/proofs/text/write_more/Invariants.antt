use Rattle.std.proofs.Common.{◌≡◌, ◌++◌, drop, string_bytes}
use Rattle.poly_text.specs.Text.{more_terms}
use Rattle.poly_text.proofs.text.write_more.Given as goal

abbrev pub invariant-loop-tuple : goal.invariant-loop-tuple
invariant-loop-tuple l = string_bytes l.out ++ more_terms l.den (drop l.tuple-index l.terms) ≡ string_bytes l.fn.out ++ more_terms l.den l.terms
