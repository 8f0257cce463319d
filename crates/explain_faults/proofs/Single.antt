-- Lists of one element.
use Rattle.std.proofs.Common.{◌≡◌, ◌<◌, arith, ℕ, zero, suc, List, [], ◌∷◌}
use Rattle.std.specs.List.{All}
use Rattle.std.specs.Prelude.{slice_index_or}

module _ {A : Type 0} (P : A → Type 0) (x : A) (holds : P x) where
  at_place : (k : ℕ) (d : A) → k < 1 → P (slice_index_or (x ∷ []) k d)
  at_place zero d below = holds
  at_place (suc k) d below = absurd (omega (arith, below))

  pub all_one : (xs : List A) → xs ≡ x ∷ [] → All P xs
  all_one xs is = rw is at_place
