-- The rows of a line behind those of its task, as the code adds them.
use Rattle.std.proofs.Common.{◌≡◌, sym, ◌∙◌, subst, arith}
use Rattle.std.specs.Prelude.{ℕ, ℤ, ◌+◌, ◌*◌, ◌^◌, ◌<◌, ◌≤◌, List, length, Option}
use Rattle.linear_rows.specs.Systems.{LinearSystem}
use Rattle.simplex_spec.specs.Tableaux.{right}
use Rattle.simplex_integers.specs.Wholes.{most}
use Rattle.infer_systems_laws.specs.Tried.{TriedHaveTasks}
use Rattle.bound_file.specs.Lines.{numerator_at}
use Rattle.bound_file.specs.Read.{coefficients_of}
use Rattle.bound_contract.specs.System.{line_rows, with_rows}
use Rattle.bound_contract.specs.Clear.{SeenIsFirst}
use Rattle.bound_contract.specs.Places as p
use Rattle.bound_contract.specs.Places.{RightLeaves}
use Rattle.bound_contract.specs.Sites.{own_at, system_at, scale_at, first_at, count_at, IsSite, OwnFits, FineAt, FirstAt}
use Rattle.bound_contract.specs.declared.site.Site.{Site}
use Rattle.bound_contract.proofs.Counting.{fine_at}
use Rattle.bound_contract.proofs.Sited.{firsts}
use Rattle.bound_contract.proofs.Spans.{IsSpan}

module _ (site : Site) (count scale : ℕ) (counted : count ≡ count_at site) (scaled : scale ≡ scale_at site) where
  pub line_made : (old new : LinearSystem) (first : ℕ) → old ≡ own_at site → first ≡ first_at site →
      new ≡ with_rows old (line_rows (coefficients_of site.bound.now) first count scale) → new ≡ system_at site
  line_made old new first own begins e = e ∙ (λ i. with_rows (own i) (line_rows (coefficients_of site.bound.now) (begins i) (counted i) (scaled i)))

  pub line_fine : OwnFits site → length (system_at site).rows ≤ 2000 → ((k : ℕ) → k < count → numerator_at (coefficients_of site.bound.now) k * scale < most) →
      (pick : List ℤ → ℤ → Option ℕ) → FineAt site pick
  line_fine fit few right =
      fine_at site fit few (λ k low. subst (λ s. numerator_at (coefficients_of site.bound.now) k * s < most) scaled (right k (subst (λ n. k < n) (sym counted) low)))

  pub right_first : IsSite site → TriedHaveTasks → SeenIsFirst → OwnFits site → length (system_at site).rows ≤ 2000 →
      (position : ℕ) → RightLeaves (coefficients_of site.bound.now) count scale position → (pick : List ℤ → ℤ → Option ℕ) → FirstAt site pick (p.Right position)
  right_first h tasks seen fit few position leaves pick =
      (firsts site h tasks seen pick).right fit few position
      (subst (λ (x : ℕ × ℕ). RightLeaves (coefficients_of site.bound.now) x.0 x.1 position) (λ i. (counted i, scaled i)) leaves)

-- The rows of the task, with those of so many positions behind them.
module _ (site : Site) (made : LinearSystem) (first count : ℕ) (span : IsSpan site made first count) where
  pub too_large : IsSite site → TriedHaveTasks → SeenIsFirst → OwnFits site → 2000 < length made.rows + count → (pick : List ℤ → ℤ → Option ℕ) → FirstAt site pick p.TooLarge
  too_large h tasks seen fit more pick = (firsts site h tasks seen pick).too_large fit (subst (λ n. 2000 < n) (sym span.rows) more)

  module _ (few : length made.rows + count ≤ 2000) where
    pub few_rows : length (system_at site).rows ≤ 2000
    few_rows = subst (λ n. n ≤ 2000) (sym span.rows) few

    pub few_columns : right (system_at site) < 2 ^ 32
    few_columns = let rows = few_rows in let own = span.few_own in omega (arith, rows, own)
