use Rattle.std.proofs.Common.{◌++◌, codes, take, reverse, string_bytes}
use Rattle.base_poly.specs.Poly.{den_of, terms_of}
use Rattle.base_poly.specs.Read.{context_of}
use Rattle.explain_algebra.specs.Algebra.{texts}
use Rattle.explain_verdicts.proofs.Excesses.{AreSoFar}
use Rattle.explain_verdicts.proofs.exceeding.push_exceeding.Given as goal

abbrev pub invariant-loop-place : goal.invariant-loop-place
invariant-loop-place l =
    AreSoFar (context_of l.params.types.now) (texts l.params.names.now) l.fractions (den_of l.found) (reverse (terms_of l.found)) (reverse (take l.place (terms_of l.found))) l.is_first
    (string_bytes l.fn.text ++ codes "; exceeding: ") (string_bytes l.text)
