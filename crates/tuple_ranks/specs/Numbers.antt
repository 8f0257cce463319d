-- A tuple by the numbers of its indices: the place of each among those of its type, component by component.
use Rattle.std.specs.Prelude.{ℕ, zero, suc, ◌+◌, ◌-◌, nat_lt, cond, List, [], ◌∷◌, ◌++◌, map, flat_map, length, take, drop}
use Rattle.std.specs.List.{position_or_len}
use Rattle.raml_syntax.specs.Tree.{Type'}
use Rattle.base_poly.specs.Plain.{Plain, alike}
use Rattle.base_poly.specs.Indices.{tuples_up_to}
use Rattle.tuple_ranks.specs.Columns.{Table, lower_count, sizes_in, up_to}

-- the place of an index; the number of all where it is none of the type or its degree is too high
abbrev pub number : Type' → ℕ → Plain → ℕ
number A d i = position_or_len (alike (i ∷ [])) (tuples_up_to (A ∷ []) d)

abbrev pub numbers : List Type' → ℕ → List Plain → List ℕ
numbers [] d [] = []
numbers [] d (i ∷ t) = 0 ∷ []
numbers (A ∷ As) d [] = []
numbers (A ∷ As) d (i ∷ t) = number A d i ∷ numbers As d t

-- each number before those of the rest, where the degree is not too high
abbrev pub led : (ℕ → List (List ℕ)) → ℕ → ℕ → List ℕ → List (List ℕ)
led rests g n [] = []
led rests g n (p ∷ ps) = cond (nat_lt g p) [] (map (λ ns. n ∷ ns) (rests (g - p))) ++ led rests g (suc n) ps

-- the numbers of all tuples of indices of these degrees that have exactly degree g
abbrev pub numbered : List (List ℕ) → ℕ → List (List ℕ)
numbered [] zero = [] ∷ []
numbered [] (suc g) = []
numbered (ps ∷ pss) g = led (numbered pss) g 0 ps

-- of n degrees, from one on
abbrev pub all_numbered : List (List ℕ) → ℕ → ℕ → List (List ℕ)
all_numbered pss zero from = []
all_numbered pss (suc n) from = numbered pss from ++ all_numbered pss n (1 + from)

-- one behind the other
abbrev pub flat : List (List ℕ) → List ℕ
flat rows = flat_map (λ ns. ns) rows

-- each behind the same numbers
abbrev pub flat_behind : List ℕ → List (List ℕ) → List ℕ
flat_behind before rows = flat_map (λ ns. before ++ ns) rows

-- cut into n rows of one length
abbrev pub cut : ℕ → ℕ → List ℕ → List (List ℕ)
cut zero width ns = []
cut (suc n) width ns = take width ns ∷ cut n width (drop width ns)

-- the numbers of all tuples of a context, and of one whose types' indices have these degrees
abbrev pub table_rows : Table → List (List ℕ)
table_rows t = cut (up_to t t.degree) (length t.columns) (flat (all_numbered (sizes_in t.columns) (1 + t.degree) 0))

abbrev pub all_rows : List (List ℕ) → ℕ → List (List ℕ)
all_rows pss d = cut (lower_count pss (1 + d)) (length pss) (flat (all_numbered pss (1 + d) 0))
