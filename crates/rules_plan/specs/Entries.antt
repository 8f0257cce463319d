-- Entries from the positions of targets.
use Rattle.std.specs.Prelude.{ℕ, suc, nat_lt, nat_eq, cond, ◌&&◌, List, [], ◌∷◌, filter}
use Rattle.std.specs.List.{position_or_len}
use Rattle.base_poly.specs.Plain.{Plain, alike}
use Rattle.index_shift.specs.declared.entry.Entry.{Entry}

-- the place of a tuple; the length where it is not there
abbrev pub spot : List (List Plain) → List Plain → ℕ
spot us t = position_or_len (alike t) us

abbrev pub entry : ℕ → ℕ → Entry
entry from to = record { from = from; to = to; times = 1 }

-- from each position on an entry to its target, where that is below the limit
abbrev pub placed_at : ℕ → ℕ → List ℕ → List Entry
placed_at n from [] = []
placed_at n from (p ∷ ps) = cond (nat_lt p n) (entry from p ∷ placed_at n (suc from) ps) (placed_at n (suc from) ps)

-- the same of those alone whose first number is this one
abbrev pub picked_at : ℕ → ℕ → ℕ → List (ℕ × ℕ) → List Entry
picked_at q n from [] = []
picked_at q n from (p ∷ ps) =
    cond (nat_eq p.0 q && nat_lt p.1 n) (entry from p.1 ∷ picked_at q n (suc from) ps) (picked_at q n (suc from) ps)

-- the entries from and to positions below the limits
abbrev pub restricted : ℕ → ℕ → List Entry → List Entry
restricted n m es = filter (λ (e : Entry). nat_lt e.from n && nat_lt e.to m) es
