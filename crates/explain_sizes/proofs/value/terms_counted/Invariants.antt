use Rattle.std.proofs.Common.{◌≡◌, ◌+◌, ℕ, drop}
use Rattle.base_poly.specs.Poly.{magnitudes}
use Rattle.explain_sizes.specs.Counts.{worth_at}
use Rattle.explain_sizes.specs.Read.{all_sizes}
use Rattle.explain_sizes.specs.Shares.{IsProper, Holds}
use Rattle.explain_sizes.proofs.value.terms_counted.Given as goal

abbrev pub invariant-loop-tuple : goal.invariant-loop-tuple
invariant-loop-tuple l = record {
  proper : IsProper l.den l.so_far;
  seen : (m : ℕ) × Holds l.den m l.so_far × (m + worth_at (magnitudes (drop l.tuple-index l.terms)) (all_sizes l.sizes) ≡ worth_at (magnitudes l.terms) (all_sizes l.sizes));
}
