-- The product of two indices of one type: the indices whose base polynomials add up to the product of theirs, each as often as it counts.
use Rattle.std.specs.Prelude.{List, [], ◌∷◌, ◌++◌, map, flat_map}
use Rattle.base_poly.specs.Plain.{Plain, Unit', Pair, End, Then, NoEntry, OneEntry}

-- of the list index with the first i and the rest r: the least position is that of i alone, that of the other's first
-- alone, or both stand at one
abbrev pub mixed : Plain → Plain → (Plain → List Plain) → (Plain → List Plain) → Plain → List Plain
mixed i r with_first with_rest (Then j s) =
    map (λ k. Then i k) (with_rest (Then j s))
    ++ (map (λ k. Then j k) (mixed i r with_first with_rest s) ++ flat_map (λ h. map (λ k. Then h k) (with_rest s)) (with_first j))
mixed i r with_first with_rest End = Then i r ∷ []
mixed i r with_first with_rest _ = []

-- a list index alone
abbrev pub list_only : Plain → List Plain
list_only End = End ∷ []
list_only (Then j s) = Then j s ∷ []
list_only _ = []

-- an option index alone
abbrev pub option_only : Plain → List Plain
option_only NoEntry = NoEntry ∷ []
option_only (OneEntry j) = OneEntry j ∷ []
option_only _ = []

-- of indices that no type has together there is none
abbrev pub product : Plain → Plain → List Plain
product Unit' j = Unit' ∷ []
product (Pair a b) (Pair c d) = flat_map (λ h. map (λ k. Pair h k) (product b d)) (product a c)
product (Pair a b) _ = []
product End j = list_only j
product (Then i r) j = mixed i r (product i) (product r) j
product NoEntry j = option_only j
product (OneEntry i) NoEntry = OneEntry i ∷ []
product (OneEntry i) (OneEntry j) = map OneEntry (product i j)
product (OneEntry i) _ = []
