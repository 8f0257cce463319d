-- Functions and the types of their results.
use Rattle.std.specs.Prelude.{◌≡◌, ℕ, slice_get, Some}
use Rattle.raml_syntax.specs.Tree.{Type'}
use Rattle.normal_spec.specs.Norm as n

-- the function at a place, whose results have this type
pub record HasResult (N : n.NormProg) (k : ℕ) (A : Type') : Type 0 where
  pub fun : n.NormFun
  pub there : slice_get N k ≡ Some fun
  pub is : fun.result ≡ A
