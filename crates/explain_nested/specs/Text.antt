-- The text of a bound on nested data, such as `2·Σ(x in l) |x| + |l| + 1`.
use Rattle.std.specs.Prelude.{◌≡◌, ℕ, ◌==◌, ◌&&◌, not, Bool, true, false, cond, List, [], ◌∷◌, ◌++◌, map, length, take, drop, filter}
use Rattle.std.specs.Prelude.{reverse, codes, decimal, slice_index_or}
use Rattle.std.specs.Prelude.{IsSortedByKey, IsPermutation}
use Rattle.std.specs.Borrow.{Bor}
use Rattle.std.specs.List.{list_any}
use Rattle.std.specs.Str.{bytes_eq}
use Rattle.raml_syntax.specs.Tree.{Text}
use Rattle.base_poly.specs.Indices.{tuple_order}
use Rattle.base_poly.specs.Poly.{Term}
use Rattle.poly_text.specs.Text.{coefficient_text}
use Rattle.explain_nested.specs.Reading.{Place, Named, First, Second, Piece, Choices, Elements, Held, tuple_reading}

-- the texts that are lent
abbrev pub texts : List (Bor (List ℕ)) → List Text
texts = map (λ (text : Bor (List ℕ)). text.now)

-- the letters that name elements
abbrev pub letters : List Text
letters =
    codes "x" ∷ codes "y" ∷ codes "z" ∷ codes "w" ∷ codes "u" ∷ codes "v" ∷ codes "s" ∷ codes "t"
    ∷ codes "p" ∷ codes "q" ∷ codes "r" ∷ codes "h" ∷ []

-- the names of the parameters, and behind them the letters that are no parameter's name
abbrev pub value_names : List Text → List Text
value_names params = params ++ filter (λ x. not (list_any (bytes_eq x) params)) letters

-- `·`
abbrev pub times : Text
times = 0xc2 ∷ 0xb7 ∷ []

-- `Σ(`
abbrev pub sum_over : Text
sum_over = 0xce ∷ 0xa3 ∷ codes "("

-- the name of the value, and that of a part: the whole's with `.first` or `.second`
abbrev pub place_text : List Text → Place → Text
place_text names (Named k) = slice_index_or names k []
place_text names (First p) = place_text names p ++ codes ".first"
place_text names (Second p) = place_text names p ++ codes ".second"

-- how many elements there are, or the ways to choose so many of them
abbrev pub choices_text : Text → ℕ → Text
choices_text x k = cond (k == 1) (codes "|" ++ (x ++ codes "|")) (codes "C(|" ++ (x ++ (codes "|," ++ (decimal k ++ codes ")"))))

-- each of the names behind a mark
abbrev pub led : Text → List Text → Text
led mark [] = []
led mark (x ∷ xs) = mark ++ (x ++ led mark xs)

-- names that stand one before the other
abbrev pub in_order : List Text → Text
in_order [] = []
in_order (x ∷ xs) = x ++ led (codes " before ") xs

-- a mark behind a factor
abbrev pub dot : Bool → Text
dot is_behind = cond is_behind times []

-- The pieces from left to right, at names of values and those of them that are next, behind a factor or not.
abbrev pub pieces_text : List Text → List Text → Bool → List Piece → Text
pieces_text names next is_behind [] = cond is_behind [] (codes "1")
pieces_text names next is_behind (Choices p k ∷ ps) =
    dot is_behind ++ (choices_text (place_text names p) k ++ pieces_text names next true ps)
pieces_text names next is_behind (Elements p k ∷ ps) =
    dot is_behind ++ (sum_over
    ++ (in_order (take k next) ++ (codes " in " ++ (place_text names p ++ (codes ") " ++ pieces_text names (drop k next) false ps)))))
pieces_text names next is_behind (Held p ∷ ps) =
    dot is_behind ++ (sum_over
    ++ (in_order (take 1 next)
    ++ (codes " held by " ++ (place_text names p ++ (codes ") " ++ pieces_text names (drop 1 next) false ps)))))

abbrev pub has_any : List Piece → Bool
has_any [] = false
has_any (p ∷ ps) = true

-- a number over the denominator and the reading of a tuple, or the reading alone where the quotient is 1
abbrev pub product_text : ℕ → List Text → List Text → ℕ → List Piece → Text
product_text den names next n ps =
    cond (n == den && has_any ps) (pieces_text names next false ps) (coefficient_text n den ++ pieces_text names next true ps)

abbrev pub term_text : ℕ → List Text → Term → Text
term_text den names t = product_text den names (drop (length t.0) names) t.1 (tuple_reading t.0)

abbrev pub more_terms : ℕ → List Text → List Term → Text
more_terms den names [] = []
more_terms den names (t ∷ ts) = codes " + " ++ (term_text den names t ++ more_terms den names ts)

-- the terms one after the other, or a zero
abbrev pub sum_text : ℕ → List Text → List Term → Text
sum_text den names [] = codes "0"
sum_text den names (t ∷ ts) = term_text den names t ++ more_terms den names ts

-- the text of a sum of terms over a denominator: those that are not zero, the last tuple first
pub record IsNestedText (den : ℕ) (names : List Text) (terms : List Term) (text : Text) : Type 0 where
  pub ordered : List Term
  pub same : IsPermutation (filter (λ t. not (t.1 == 0)) terms) ordered
  pub sorted : IsSortedByKey (λ t. t.0) tuple_order ordered
  pub is : text ≡ sum_text den names (reverse ordered)
