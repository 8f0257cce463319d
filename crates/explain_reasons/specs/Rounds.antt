-- The number of calls inside a group: the rounds that its count program counts by its ticks.
use Rattle.std.specs.Prelude.{◌≡◌, ℕ, List, [], ◌∷◌, Bool, true, false, ◌||◌, ◌&&◌, slice_get}
use Rattle.raml_syntax.specs.Tree.{Prog}
use Rattle.cost_free.specs.declared.task.Meter.TheVariants.{Ticks}
use Rattle.explain_count.specs.Count.{count_program}
use Rattle.explain_degrees.specs.declared.finding.Findings.{Findings}
use Rattle.explain_degrees.specs.declared.least.LeastBounds.{LeastBounds}
use Rattle.explain_lines.specs.Lines.{passes, is_unbounded, is_bounded_at}
use Rattle.explain_trials.specs.Trials.{FindsUpTo}

-- no bound of the ticks of some of these functions is found
abbrev pub some_unbounded : List Findings → List ℕ → Bool
some_unbounded found [] = false
some_unbounded found (f ∷ group) = passes (λ findings. is_unbounded findings.ticks) (slice_get found f) || some_unbounded found group

-- one is found of each
abbrev pub all_bounded : List Findings → List ℕ → Bool
all_bounded found [] = true
all_bounded found (f ∷ group) = is_bounded_at found f Ticks && all_bounded found group

-- analyses up to a degree find no bound of the number of calls inside the group
pub record RoundsUnbounded (P : Prog) (group : List ℕ) (most : ℕ) : Type 0 where
  pub found : LeastBounds
  pub finds : FindsUpTo (count_program group P) most found
  pub unbounded : some_unbounded found.functions.items group ≡ true

-- they find one
pub record RoundsBounded (P : Prog) (group : List ℕ) (most : ℕ) : Type 0 where
  pub found : LeastBounds
  pub finds : FindsUpTo (count_program group P) most found
  pub bounded : all_bounded found.functions.items group ≡ true
