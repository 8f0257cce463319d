-- The signatures and hints that numbers stand for, in the order of unknowns.
use Rattle.std.specs.Prelude.{ℕ, suc, pos, cond, nat_eq, List, [], ◌∷◌, map, slice_index_or}
use Rattle.annot_types.specs.Certificate as c
use Rattle.annot_types.specs.Certificate.{Entries, Sig, Block}
use Rattle.annot_types.specs.Program.{Program}
use Rattle.cost_free.specs.Task.{Task}
use Rattle.rules_spec.specs.Numbers.{Sides, Hint, Results, Copies, Multiples}
use Rattle.rules_spec.specs.Tasks.{Body, sides_count, sides_given, hints_given}
use Rattle.rules_spec.specs.Jobs.{job_of}

-- the bodies of a task's group; no price is read of them
abbrev pub bodies_of : Program → ℕ → List Block → Task → List Body
bodies_of P d earlier task = (job_of P d earlier task 1).bodies

-- the numbers that are not 0, the first of which has this position
abbrev pub entries_from : ℕ → List ℕ → Entries
entries_from k [] = []
entries_from k (n ∷ ns) = cond (nat_eq n 0) (entries_from (suc k) ns) ((k, pos n) ∷ entries_from (suc k) ns)

abbrev pub entries : List ℕ → Entries
entries ns = entries_from 0 ns

-- the blocks that are taken at all
abbrev pub named : List (ℕ × ℕ) → Entries
named [] = []
named (m ∷ ms) = cond (nat_eq m.1 0) (named ms) ((m.0, pos m.1) ∷ named ms)

abbrev pub sig : Sides ℕ → Sig
sig s = record { args = entries s.args; result = entries s.result }

abbrev pub hint : Hint ℕ → c.Hint
hint (Results qs) = c.Let (map entries qs)
hint (Copies q) = c.Share (entries q)
hint (Multiples ms) = c.Call (named ms)

abbrev pub number_in : List ℕ → ℕ → ℕ
number_in x u = slice_index_or x u 0

abbrev pub sigs_told : List Body → List ℕ → List Sig
sigs_told bodies x = map sig (sides_given (number_in x) 0 bodies)

abbrev pub hints_told : List Body → List ℕ → List (List c.Hint)
hints_told bodies x = map (map hint) (hints_given (number_in x) (sides_count bodies) bodies)
