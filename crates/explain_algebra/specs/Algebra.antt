-- The bound of a flat function in algebra, such as `3/2·n² + 1/2·n`.
use Rattle.std.specs.Prelude.{ℕ, suc, ◌==◌, ◌&&◌, not, ℤ, unsigned_abs, Bool, true, false, cond, Option, Some, None, List, [], ◌∷◌, ◌++◌}
use Rattle.std.specs.Prelude.{map, filter, reverse, codes, decimal, encode_utf8, slice_get, slice_index_or}
use Rattle.std.specs.Borrow.{Bor}
use Rattle.std.specs.List.{list_any}
use Rattle.std.specs.Str.{bytes_eq}
use Rattle.raml_syntax.specs.Tree.{Text, Type', ListOf, TreeOf}
use Rattle.poly_text.specs.Text.{coefficient_text}
use Rattle.bound_compare.specs.Powers.{Powers}
use Rattle.bound_compare.specs.Text.{sign_text, joint_text}

-- whether values of the type have a size: lists and trees have one
abbrev pub has_size : Type' → Bool
has_size (ListOf A) = true
has_size (TreeOf A) = true
has_size A = false

-- the letters that name sizes; `l` and `o` are left out, which look like digits
abbrev pub letters : List ℕ
letters = codes "nmkjihgfedcbaqpr"

-- those that are no parameter's name
abbrev pub free_letters : List Text → List ℕ
free_letters params = filter (λ x. not (list_any (bytes_eq (x ∷ [])) params)) letters

-- the name of each parameter's size: the letters in turn, from the j-th on, for those that have one, and none for the others
abbrev pub named_from : List ℕ → ℕ → List Type' → List (Option ℕ)
named_from xs j [] = []
named_from xs j (A ∷ As) = cond (has_size A) (slice_get xs j ∷ named_from xs (suc j) As) (None ∷ named_from xs j As)

-- of parameters with these names and types
abbrev pub size_names : List Text → List Type' → List (Option ℕ)
size_names params As = named_from (free_letters params) 0 As

-- the name of the size of parameter j, counted from 0
abbrev pub name_at : List (Option ℕ) → ℕ → Option ℕ
name_at names j = slice_index_or names j None

-- the texts with a mark before each
abbrev pub led : Text → List Text → Text
led mark [] = []
led mark (t ∷ ts) = mark ++ (t ++ led mark ts)

-- the texts with a mark between them
abbrev pub joined : Text → List Text → Text
joined mark [] = []
joined mark (t ∷ ts) = t ++ led mark ts

-- `·`
abbrev pub times : Text
times = 0xc2 ∷ 0xb7 ∷ []

-- the exponent above, where it is not 1: `²`, `³`, `⁴`
abbrev pub exponent_text : ℕ → Text
exponent_text e =
    cond (e == 1) []
    (cond (e == 2) (0xc2 ∷ 0xb2 ∷ [])
    (cond (e == 3) (0xc2 ∷ 0xb3 ∷ [])
    (cond (e == 4) (0xe2 ∷ 0x81 ∷ 0xb4 ∷ []) (codes "^" ++ decimal e))))

-- the size of this name to the exponent, as one factor or none
abbrev pub factor : Option ℕ → ℕ → List Text
factor None e = []
factor (Some c) e = cond (e == 0) [] ((encode_utf8 c ++ exponent_text e) ∷ [])

-- those of the parameters from the j-th on
abbrev pub factors : List (Option ℕ) → ℕ → List ℕ → List Text
factors names j [] = []
factors names j (e ∷ es) = factor (name_at names j) e ++ factors names (suc j) es

abbrev pub has_any : List Text → Bool
has_any [] = false
has_any (t ∷ ts) = true

-- the coefficient before the factors, or the factors alone where it is 1 and there are some
abbrev pub with_coefficient : Bool → Text → List Text → List Text
with_coefficient is_one c fs = cond (is_one && has_any fs) fs (c ∷ fs)

-- the term without its sign: a number over the denominator, and its factors
abbrev pub term_text : ℕ → List (Option ℕ) → List ℕ × ℤ → Text
term_text den names p =
    joined times (with_coefficient (unsigned_abs p.1 == den) (coefficient_text (unsigned_abs p.1) den) (factors names 0 p.0))

abbrev pub more_terms : ℕ → List (Option ℕ) → Powers → Text
more_terms den names [] = []
more_terms den names (p ∷ ps) = joint_text p.1 ++ (term_text den names p ++ more_terms den names ps)

-- the terms one after the other, or a zero
abbrev pub sum_text : ℕ → List (Option ℕ) → Powers → Text
sum_text den names [] = codes "0"
sum_text den names (p ∷ ps) = sign_text p.1 ++ (term_text den names p ++ more_terms den names ps)

-- the sum of the powers over a denominator, the highest degree first
abbrev pub algebra_text : ℕ → List (Option ℕ) → Powers → Text
algebra_text den names ps = sum_text den names (reverse ps)

-- NAME = |PARAMETER|, where the parameter has a size
abbrev pub equation : Option ℕ → Text → List Text
equation None p = []
equation (Some c) p = (encode_utf8 c ++ (codes " = |" ++ (p ++ codes "|"))) ∷ []

abbrev pub equations : List (Option ℕ) → ℕ → List Text → List Text
equations names j [] = []
equations names j (p ∷ ps) = equation (name_at names j) p ++ equations names (suc j) ps

-- the texts that are lent
abbrev pub texts : List (Bor (List ℕ)) → List Text
texts = map (λ (text : Bor (List ℕ)). text.now)

-- what the names mean, of parameters with these names
abbrev pub legend_text : List (Option ℕ) → List Text → Text
legend_text names params = joined (codes ", ") (equations names 0 params)
