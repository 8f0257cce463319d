-- The text of indices and of polynomials.
use Rattle.std.specs.Prelude.{◌≡◌, ℕ, ◌/◌, cond, ◌==◌, not, List, [], ◌∷◌, ◌++◌, filter, codes, decimal, IsSortedByKey, IsPermutation}
use Rattle.raml_syntax.specs.Tree.{Text}
use Rattle.base_poly.specs.Plain.{Plain, Unit', Pair, End, Then, NoEntry, OneEntry, many, degrees}
use Rattle.base_poly.specs.Indices.{tuple_order}
use Rattle.base_poly.specs.Poly.{Term, den_of, terms_of, IsPoly}
use Rattle.base_poly.specs.declared.tuple.Poly.{Poly}
use Rattle.poly_text.specs.Lowest.{divisor}

abbrev mutual
  pub index_text : Plain → Text
  index_text Unit' = codes "_"
  index_text (Pair a b) = codes "(" ++ (index_text a ++ (codes ", " ++ (index_text b ++ codes ")")))
  index_text End = codes "[]"
  index_text (Then i r) = codes "[" ++ ((index_text i ++ more_entries r) ++ codes "]")
  index_text NoEntry = codes "[]"
  index_text (OneEntry i) = codes "[" ++ (index_text i ++ codes "]")

  -- the entries behind the first
  pub more_entries : Plain → Text
  more_entries (Then i r) = codes ", " ++ (index_text i ++ more_entries r)
  more_entries _ = []

-- the entries of a list index
abbrev pub entries_text : Plain → Text
entries_text (Then i r) = index_text i ++ more_entries r
entries_text _ = []

-- the quotient of n by m in lowest terms
abbrev pub coefficient_text : ℕ → ℕ → Text
coefficient_text n m = decimal (n / divisor n m) ++ cond (m / divisor n m == 1) [] (codes "/" ++ decimal (m / divisor n m))

-- the tuple of degree 0 is not written
abbrev pub term_text : ℕ → Term → Text
term_text den t = coefficient_text t.1 den ++ cond (degrees t.0 == 0) [] (codes "*<" ++ (entries_text (many t.0) ++ codes ">"))

abbrev pub more_terms : ℕ → List Term → Text
more_terms den [] = []
more_terms den (t ∷ ts) = codes " + " ++ (term_text den t ++ more_terms den ts)

-- the terms one after the other, or a zero
abbrev pub sum_text : ℕ → List Term → Text
sum_text den [] = codes "0"
sum_text den (t ∷ ts) = term_text den t ++ more_terms den ts

-- the text of a sum of terms over a denominator: those that are not zero, in the order of their tuples
pub record IsTextOf (den : ℕ) (terms : List Term) (text : Text) : Type 0 where
  pub ordered : List Term
  pub same : IsPermutation (filter (λ t. not (t.1 == 0)) terms) ordered
  pub sorted : IsSortedByKey (λ t. t.0) tuple_order ordered
  pub is : text ≡ sum_text den ordered

-- A polynomial has one text.
abbrev pub PolynomialsHaveOneText : Type 0
PolynomialsHaveOneText = (p : Poly) (text other : Text) → IsPoly p →
    IsTextOf (den_of p) (terms_of p) text → IsTextOf (den_of p) (terms_of p) other → text ≡ other
