-- The one text of a polynomial.
use Rattle.std.specs.Prelude.{◌≡◌, ℕ, cond, ◌==◌, not, List, [], ◌∷◌, filter}
use Rattle.std.specs.Ordering.{is_lt}
use Rattle.raml_syntax.specs.Tree.{Text}
use Rattle.base_poly.specs.Indices.{tuple_order}
use Rattle.base_poly.specs.Poly.{Term, den_of, terms_of, IsPoly}
use Rattle.base_poly.specs.declared.tuple.Poly.{Poly}
use Rattle.poly_text.specs.Text.{sum_text, IsTextOf}

-- the term among terms in order: behind those whose tuples are less than its own
abbrev pub put : Term → List Term → List Term
put t [] = t ∷ []
put t (u ∷ us) = cond (is_lt (tuple_order u.0 t.0)) (u ∷ put t us) (t ∷ u ∷ us)

-- the terms in the order of their tuples
abbrev pub in_order : List Term → List Term
in_order [] = []
in_order (t ∷ ts) = put t (in_order ts)

-- a sum of terms over a denominator: those that are not zero, in the order of their tuples
abbrev pub polynomial_text : ℕ → List Term → Text
polynomial_text den terms = sum_text den (in_order (filter (λ (t : Term). not (t.1 == 0)) terms))

-- It is the text that a polynomial has, and the only one.
abbrev pub PolynomialsHaveThisText : Type 0
PolynomialsHaveThisText =
    (p : Poly) (text : Text) → IsPoly p → IsTextOf (den_of p) (terms_of p) text → text ≡ polynomial_text (den_of p) (terms_of p)
