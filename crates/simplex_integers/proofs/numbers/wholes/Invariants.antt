use Rattle.std.proofs.Common.{◌≡◌, ◌<◌, ℕ, pos, map, take, slice_index_or}
use Rattle.simplex_integers.specs.Wholes.{most}
use Rattle.simplex_integers.specs.Denominators.{all_over}
use Rattle.simplex_integers.proofs.numbers.wholes.Given as goal

-- the numbers of the entries so far, which fit
abbrev pub invariant-loop-entry : goal.invariant-loop-entry
invariant-loop-entry l = (l.numbers.items ≡ map pos (take l.entry (all_over l.denominator l.fractions)))
    × ((i : ℕ) → slice_index_or (take l.entry (all_over l.denominator l.fractions)) i 0 < most)
