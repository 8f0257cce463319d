-- Indices as plain data, and their order.
use Rattle.std.specs.Prelude.{ℕ, zero, suc, ◌+◌, ◌-◌, ◌^◌, min, Bool, List, [], ◌∷◌, ◌++◌}
use Rattle.std.specs.declared.cmp.Ordering.{Ordering}
use Rattle.std.specs.Ordering.{ordering_then, nat_cmp, eq_by_cmp}

-- A list index is its first entry before the others, and `End` is the one without entries. An option index has no entry or one.
pub data Plain : Type 0 where
  Unit' : Plain
  Pair : Plain → Plain → Plain
  End : Plain
  Then : Plain → Plain → Plain
  NoEntry : Plain
  OneEntry : Plain → Plain

-- the list index with these entries
abbrev pub many : List Plain → Plain
many [] = End
many (i ∷ is) = Then i (many is)

-- how many entries a list index has
abbrev pub entry_count : Plain → ℕ
entry_count (Then i r) = suc (entry_count r)
entry_count _ = zero

-- the entries of a list index
abbrev pub entries_of : Plain → List Plain
entries_of (Then i r) = i ∷ entries_of r
entries_of _ = []

-- the unit has none, a pair those of its parts, and each entry counts for one beside its own
abbrev pub deg : Plain → ℕ
deg Unit' = 0
deg (Pair i j) = deg i + deg j
deg End = 0
deg (Then i r) = 1 + deg i + deg r
deg NoEntry = 0
deg (OneEntry i) = 1 + deg i

-- the degree of a tuple
abbrev pub degrees : List Plain → ℕ
degrees [] = 0
degrees (i ∷ is) = deg i + degrees is

-- a degree as the code compares it, in 32 bits
abbrev pub capped : ℕ → ℕ
capped n = min n (2 ^ 32 - 1)

-- where indices of this form stand among those of others
abbrev pub rank : Plain → ℕ
rank Unit' = 0
rank (Pair a b) = 1
rank End = 2
rank (Then x r) = 3
rank NoEntry = 4
rank (OneEntry x) = 5

-- The unit before pairs before lists before options; pairs by first part, then second; lists entry by entry, a proper
-- prefix first; options without an entry first, then by it.
abbrev pub order : Plain → Plain → Ordering
order (Pair a b) (Pair c d) = ordering_then (order a c) (order b d)
order (Then x r) (Then y s) = ordering_then (order x y) (order r s)
order (OneEntry x) (OneEntry y) = order x y
order x y = nat_cmp (rank x) (rank y)

abbrev pub same : Plain → Plain → Bool
same = eq_by_cmp order

-- the same for tuples
abbrev pub alike : List Plain → List Plain → Bool
alike t u = same (many t) (many u)

-- what is hashed: each list is closed, so that the writes of two indices differ
abbrev pub writes : Plain → List (List ℕ)
writes Unit' = (1 ∷ []) ∷ []
writes (Pair a b) = (2 ∷ []) ∷ (writes a ++ writes b)
writes End = (0 ∷ []) ∷ []
writes (Then x r) = (3 ∷ []) ∷ (writes x ++ writes r)
writes NoEntry = (4 ∷ []) ∷ []
writes (OneEntry x) = (5 ∷ []) ∷ writes x
