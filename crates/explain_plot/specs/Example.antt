-- Small sizes, worked out by hand.
use Rattle.std.specs.Prelude.{◌≡◌, [], ◌∷◌, Some, None, codes}
use Rattle.explain_plot.specs.Sizes.{sizes_in}

pub record Examples : Type 0 where
  pub several : sizes_in (codes "0,1,20,100000") ≡ Some (0 ∷ 1 ∷ 20 ∷ 100000 ∷ [])
  pub one : sizes_in (codes "007") ≡ Some (7 ∷ [])
  pub nothing : sizes_in [] ≡ None
  pub behind_comma : sizes_in (codes "1,") ≡ None
  pub before_comma : sizes_in (codes ",1") ≡ None
  pub twice : sizes_in (codes "1,1") ≡ None
  pub descending : sizes_in (codes "2,1") ≡ None
  pub too_great : sizes_in (codes "100001") ≡ None
  pub no_number : sizes_in (codes "1,x") ≡ None
