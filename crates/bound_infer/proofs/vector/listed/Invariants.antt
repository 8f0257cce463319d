use Rattle.std.proofs.Common.{◌≡◌, ◌++◌, ℕ, pos, List, map, drop}
use Rattle.infer_spec.specs.Listed.{listed}
use Rattle.bound_infer.proofs.vector.listed.Given as goal

-- the entries so far, and those of the rest
abbrev pub invariant-loop-place : goal.invariant-loop-place
invariant-loop-place l = (ys : List ℕ) → l.vector ≡ map pos ys → l.entries.items ++ listed l.place (drop l.place ys) ≡ listed 0 ys
