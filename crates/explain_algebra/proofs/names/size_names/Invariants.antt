use Rattle.std.proofs.Common.{◌≡◌, ◌≤◌, ◌++◌, drop}
use Rattle.base_poly.specs.Read.{context_of}
use Rattle.explain_algebra.specs.Algebra.{named_from, size_names, texts}
use Rattle.explain_algebra.proofs.names.size_names.Given as goal

abbrev pub invariant-loop-ty : goal.invariant-loop-ty
invariant-loop-ty l = record {
  few : l.named ≤ l.ty-index;
  names : l.names.items ++ named_from l.letters.items l.named (context_of (drop l.ty-index l.types)) ≡ size_names (texts l.params) (context_of l.types);
}
