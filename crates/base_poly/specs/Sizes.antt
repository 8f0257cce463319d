-- Degrees alone: those of indices and of tuples, without any of these.
use Rattle.std.specs.Prelude.{ℕ, zero, suc, ◌+◌, nat_le, List, [], ◌∷◌, map, flat_map, filter}

-- a first number and each of the others, where both together are at most d
abbrev pub sums_behind : ℕ → ℕ → List ℕ → List ℕ
sums_behind first d ns = filter (λ n. nat_le n d) (map (λ n. first + n) ns)

-- the same for each of the firsts, which count for so much more
abbrev pub all_sums : ℕ → ℕ → List ℕ → List ℕ → List ℕ
all_sums more d firsts ns = flat_map (λ a. sums_behind (more + a) d ns) firsts

-- the degrees of the list indices of degree at most d, from those of what may be an entry
abbrev pub list_sums : List ℕ → ℕ → List ℕ
list_sums entries zero = 0 ∷ []
list_sums entries (suc d) = 0 ∷ all_sums 1 (suc d) entries (list_sums entries d)
