-- What is known where a declared bound is decided.
use Rattle.std.proofs.Common.{◌≡◌, sym, subst}
use Rattle.std.specs.Prelude.{ℕ, ℤ, List, Option, Some, None}
use Rattle.linear_rows.specs.Systems.{IsSystem}
use Rattle.cost_free.specs.Task.{Task}
use Rattle.annot_types.specs.Program.{blocker_of}
use Rattle.annot_types.specs.Held.{before, done_before, scale_for}
use Rattle.annot_types.specs.System.{system}
use Rattle.rules_spec.specs.Systems.{IsTask}
use Rattle.infer_systems_laws.specs.Tried.{TriedHaveTasks}
use Rattle.other_blocks.specs.Other.{place_among}
use Rattle.bound_contract.specs.Kept.{IsTaskOf}
use Rattle.bound_contract.specs.Laws.{ReadingDecides, ReadingsDecide}
use Rattle.bound_contract.specs.Clear.{PlacesAreFirst, FineIsClear, SeenIsFirst, AllFineIsClear}
use Rattle.bound_contract.specs.Sites.{program_at, certificate_at, line_at, task_at, before_at, scale_at, own_at, system_at, IsSite}
use Rattle.bound_contract.specs.declared.site.Site.{Site}
use Rattle.bound_contract.proofs.Owned.{own_is_of, own_is_first}
use Rattle.bound_contract.proofs.Solutions.{declared_is_system}

module _ (site : Site) (h : IsSite site) where
  pub site_of : IsTaskOf (program_at site) (line_at site) (task_at site)
  site_of = subst (IsTaskOf (program_at site) (line_at site)) h.task_is (own_is_of (program_at site) (certificate_at site) (line_at site) site.place h.own h.own_is)

  pub site_first : place_among (task_at site) (certificate_at site).blocks ≡ Some site.place
  site_first = subst (λ (u : Task). place_among u (certificate_at site).blocks ≡ Some site.place) h.task_is
      (own_is_first (program_at site) (certificate_at site) (line_at site) site.place h.own h.own_is)

  pub own_tried : blocker_of (program_at site) h.own.task (done_before (certificate_at site) site.place) ≡ None
  own_tried = subst (λ (u : Task). blocker_of (program_at site) u (done_before (certificate_at site) site.place) ≡ None) (sym h.task_is) h.tried

  module _ (tasks : TriedHaveTasks) where
    both : IsTask (program_at site) (certificate_at site).degree (before_at site) (task_at site) (scale_at site) × IsSystem (own_at site)
    both =
        let c = certificate_at site in
        subst (λ (u : Task). IsTask (program_at site) c.degree (before c site.place) u (scale_for c u.kind) × IsSystem (system (program_at site) c.degree (before c site.place) u (scale_for c u.kind))) h.task_is
        (tasks (program_at site) h.ordered c h.held site.place h.own h.own_is.there own_tried)

    pub site_task : IsTask (program_at site) (certificate_at site).degree (before_at site) (task_at site) (scale_at site)
    site_task = both.0

    pub own_system : IsSystem (own_at site)
    own_system = both.1

    pub site_system : IsSystem (system_at site)
    site_system = declared_is_system (program_at site) (certificate_at site).degree (before_at site) (task_at site) (scale_at site) (line_at site) both.0 site_of both.1

    pub firsts : SeenIsFirst → (pick : List ℤ → ℤ → Option ℕ) → PlacesAreFirst (program_at site) (certificate_at site) site.place (task_at site) (line_at site) pick
    firsts seen pick = seen (program_at site) (certificate_at site) site.place (task_at site) (line_at site) pick site_system

    pub clears : AllFineIsClear → (pick : List ℤ → ℤ → Option ℕ) → FineIsClear (program_at site) (certificate_at site) site.place (task_at site) (line_at site) pick
    clears fine pick = fine (program_at site) (certificate_at site) site.place (task_at site) (line_at site) pick site_system

  pub readings : ReadingsDecide → (pick : List ℤ → ℤ → Option ℕ) → ReadingDecides (program_at site) (certificate_at site) site.place (task_at site) (line_at site) pick
  readings decide pick =
      subst (λ (u : Task). IsTaskOf (program_at site) (line_at site) u → ReadingDecides (program_at site) (certificate_at site) site.place u (line_at site) pick) h.task_is
      (λ of. decide (program_at site) h.ordered (certificate_at site) h.held site.place h.own h.own_is.there own_tried (line_at site) of pick) site_of
