-- Annotations that reach a target.
use Rattle.std.specs.Prelude.{◌≡◌, ◌≤◌, ℕ, ◌+◌, nat_lt, Bool, true, false, cond, ◌&&◌, List, [], ◌∷◌, length, slice_get, slice_index_or}
use Rattle.std.specs.Prelude.{Some}
use Rattle.raml_syntax.specs.Tree.{Type'}
use Rattle.base_poly.specs.Plain.{Plain, alike}
use Rattle.base_poly.specs.Indices.{index_list}
use Rattle.index_shift.specs.Potential.{Annotation}
use Rattle.cost_free.specs.Target.{Target, targets}
use Rattle.annot_types.specs.Holds.{CoversTarget}
use Rattle.cert_check.specs.Finds.{missing_from}

-- the annotation has a number at the place of the tuple among these, the first of which has this place
abbrev pub has_from : ℕ → List Plain → List (List Plain) → Annotation → Bool
has_from k t [] q = false
has_from k t (x ∷ xs) q = cond (alike t x) (nat_lt 0 (q k)) (has_from (k + 1) t xs q)

-- at that of each tuple of a target
abbrev pub has_all : List (List Plain) → Annotation → Target → Bool
has_all tuples q [] = true
has_all tuples q (t ∷ ts) = has_from 0 t tuples q && has_all tuples q ts

abbrev pub AreFew : List (List Plain) → Type 0
AreFew tuples = length tuples ≤ 2000

-- The target of this number is there, and is reached.
pub record IsReached (A : Type') (d budget number : ℕ) (r : Annotation) : Type 0 where
  pub target : Target
  pub numbered : slice_get (targets A d) number ≡ Some target
  pub covers : CoversTarget A budget r 1 target

-- It is not, and this is the first position at which it is missed.
pub record IsMissed (A : Type') (d budget number : ℕ) (r : Annotation) (index : ℕ) : Type 0 where
  pub not_reached : IsReached A d budget number r → ⊥
  pub first : index ≡ missing_from 0 r (slice_index_or (targets A d) number []) (index_list (A ∷ []) budget)
