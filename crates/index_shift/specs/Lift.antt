-- A map of a context, made of numbers alone.
use Rattle.std.specs.Prelude.{ℕ, zero, suc, ◌+◌, ◌-◌, nat_lt, cond, fold, List, [], ◌∷◌, ◌++◌, map}
use Rattle.index_shift.specs.declared.entry.Entry.{Entry}
use Rattle.index_shift.specs.declared.lift.Target.{Target}

-- A tuple of the types that leave: its degree, and to what it is carried.
pub record Middle : Type 0 where
  pub degree : ℕ
  pub targets : List Target

-- What is known of the new context: the degrees of the tuples before the place, how many tuples of the types behind it
-- have a degree, where the tuples of a degree begin that begin as the k-th before the place, and what is before the
-- m-th tuple of the new types.
pub record Counts : Type 0 where
  pub before : List ℕ
  pub after : ℕ → ℕ
  pub first : ℕ → ℕ → ℕ
  pub second : ℕ → ℕ → ℕ

-- the entries so far, and the next position
abbrev pub State : Type 0
State = List Entry × ℕ

-- a step for y, for the next number and so on, n times
abbrev pub rows : (ℕ → State → State) → ℕ → ℕ → State → State
rows go y zero s = s
rows go y (suc n) s = rows go (suc y) n (go y s)

-- the position of a target between the k-th tuple before the place, of degree p, and the y-th behind it of degree r
abbrev pub place_of : Counts → ℕ → ℕ → ℕ → ℕ → Target → ℕ
place_of c p k r y t =
    c.first (p + (t.degree + r)) k + (c.second (t.degree + r) t.place + y)

abbrev pub entry_of : Counts → ℕ → ℕ → ℕ → ℕ → ℕ → Target → Entry
entry_of c p k r from y t = record { from = from; to = place_of c p k r y t; times = t.times }

-- an entry for each target
abbrev pub one_row : Counts → ℕ → ℕ → ℕ → List Target → ℕ → State → State
one_row c p k r ts y s = (s.0 ++ map (entry_of c p k r s.1 y) ts, suc s.1)

-- all tuples with this middle whose degree behind those before the place is `left`
abbrev pub of_middle : Counts → ℕ → ℕ → ℕ → State → Middle → State
of_middle c left p k s m = cond (nat_lt left m.degree) s (rows (one_row c p k (left - m.degree) m.targets) 0 (c.after (left - m.degree)) s)

-- all tuples of degree g that begin as the k-th before the place
abbrev pub begun : Counts → List Middle → ℕ → ℕ → ℕ → State → State
begun c ms g k p s = cond (nat_lt g p) s (fold (of_middle c (g - p) p k) s ms)

abbrev pub of_before : Counts → List Middle → ℕ → ℕ → List ℕ → State → State
of_before c ms g k [] s = s
of_before c ms g k (p ∷ ps) s = of_before c ms g (suc k) ps (begun c ms g k p s)

-- all tuples of n degrees, from g on
abbrev pub of_degrees : Counts → List Middle → ℕ → ℕ → State → State
of_degrees c ms g zero s = s
of_degrees c ms g (suc n) s = of_degrees c ms (1 + g) n (of_before c ms g 0 c.before s)

abbrev pub lifted : Counts → List Middle → ℕ → List Entry
lifted c ms d = (of_degrees c ms 0 (1 + d) ([], 0)).0
