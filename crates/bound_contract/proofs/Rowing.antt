-- The rows of the task, and why there are none.
use Rattle.std.proofs.Common.{ap, ◌∙◌}
use Rattle.std.specs.Prelude.{ℕ, ℤ, ◌≤◌, List, slice_get, Option}
use Rattle.linear_rows.specs.Systems.{LinearSystem}
use Rattle.constraint_gen.specs.Cause.{IsMade, IsCause}
use Rattle.constraint_gen.specs.declared.fault.GenFault.TheVariants.{TooLarge, Leaves}
use Rattle.constraint_gen.specs.declared.fault.What.{What}
use Rattle.infer_systems_laws.specs.Laws.{LimitsAreTold}
use Rattle.infer_systems_laws.specs.Tried.{TriedHaveTasks}
use Rattle.bound_contract.specs.Clear.{SeenIsFirst}
use Rattle.bound_contract.specs.Places as p
use Rattle.bound_contract.specs.Sites.{program_at, certificate_at, before_at, task_at, scale_at, IsSite, OwnFits, FirstAt}
use Rattle.bound_contract.specs.declared.site.Site.{Site}
use Rattle.bound_contract.proofs.Limits.{each_fits, never_too_large, first_leaves}
use Rattle.bound_contract.proofs.Sited.{firsts}

module _ (site : Site) where
  abbrev pub MadeAt : LinearSystem → Type 0
  MadeAt made = IsMade (program_at site) (certificate_at site).degree (before_at site) (task_at site) (scale_at site) made

  pub few_made : (made : LinearSystem) → MadeAt made → made.unknowns ≤ 2000
  few_made made m = m.unknowns

  pub fit_made : (made : LinearSystem) → MadeAt made → OwnFits site
  fit_made made m place row e = each_fits made.rows m.fit place row (ap (λ (s : LinearSystem). slice_get s.rows place) m.is ∙ e)

  module _ (h : IsSite site) where
    pub none_large : LimitsAreTold → (what : What) → IsCause (program_at site) (certificate_at site).degree (before_at site) (task_at site) (scale_at site) (TooLarge what) → ⊥
    none_large told what cause = never_too_large told (program_at site) (certificate_at site).degree (before_at site) (task_at site) (scale_at site) h.within what cause

    pub row_first : TriedHaveTasks → SeenIsFirst → (row : ℕ) → IsCause (program_at site) (certificate_at site).degree (before_at site) (task_at site) (scale_at site) (Leaves row) →
        (pick : List ℤ → ℤ → Option ℕ) → FirstAt site pick (p.Row row)
    row_first tasks seen row cause pick =
        (firsts site h tasks seen pick).row row (first_leaves (program_at site) (certificate_at site).degree (before_at site) (task_at site) (scale_at site) row cause.3)
