-- A bound in algebra, and what the names in it mean.
use Rattle.std.specs.Prelude.{◌≡◌, ◌⊎◌, ℕ, suc, ◌*◌, ◌==◌, not, Bool, true, false, cond, Option, None, List, [], ◌∷◌, length}
use Rattle.std.specs.Prelude.{slice_index_or}
use Rattle.std.specs.List.{list_any}
use Rattle.raml_syntax.specs.Tree.{Text, Type'}
use Rattle.base_poly.specs.Poly.{den_of, terms_of}
use Rattle.base_poly.specs.declared.tuple.Poly.{Poly}
use Rattle.bound_compare.specs.Powers.{Powers, powers_of, Fits, Leaves}
use Rattle.explain_algebra.specs.Algebra.{size_names, algebra_text, legend_text}
use Rattle.explain_algebra.specs.Laws.{are_shallow}
use Rattle.explain_nested.specs.Text.{value_names, IsNestedText}

-- a power of parameter j, counted from 0, stands in the sum
abbrev pub occurs : ℕ → Powers → Bool
occurs j ps = list_any (λ p. not (slice_index_or p.0 j 0 == 0)) ps

-- the names, from that of parameter j on, of sizes that occur in the sum, and none for the others
abbrev pub used_from : ℕ → Powers → List (Option ℕ) → List (Option ℕ)
used_from j ps [] = []
used_from j ps (name ∷ names) = cond (occurs j ps) name None ∷ used_from (suc j) ps names

abbrev pub used_names : Powers → List (Option ℕ) → List (Option ℕ)
used_names ps names = used_from 0 ps names

-- The bound in powers of the parameters' sizes, where nothing that they hold has a size and all numbers fit 128 bits. The legend says
-- what the names of sizes mean that occur.
pub record IsInPowers (As : List Type') (params : List Text) (poly : Poly) (text meaning : Text) : Type 0 where
  pub shallow : are_shallow As ≡ true
  pub fits : Fits (den_of poly) (terms_of poly)
  pub sum : text ≡ algebra_text (24 * den_of poly) (size_names params As) (powers_of (length As) (terms_of poly))
  pub legend : meaning ≡ legend_text (used_names (powers_of (length As) (terms_of poly)) (size_names params As)) params

-- It as a sum over elements, where something that they hold has a size or a number leaves 128 bits. Such a sum needs no legend.
pub record IsOverElements (As : List Type') (params : List Text) (poly : Poly) (text meaning : Text) : Type 0 where
  pub beyond : (are_shallow As ≡ false) ⊎ Leaves (den_of poly) (terms_of poly)
  pub sum : IsNestedText (den_of poly) (value_names params) (terms_of poly) text
  pub legend : meaning ≡ []

-- The text is the bound in algebra of a function whose parameters have these types and names, with what the names in it mean.
abbrev pub IsReading : List Type' → List Text → Poly → Text → Text → Type 0
IsReading As params poly text meaning = IsInPowers As params poly text meaning ⊎ IsOverElements As params poly text meaning
