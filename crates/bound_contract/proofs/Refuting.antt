-- A vector that is read where a declared bound is decided.
use Rattle.std.proofs.Common.{◌≡◌, sym, subst}
use Rattle.std.specs.Prelude.{ℕ, ℤ, pos, List, map, Option}
use Rattle.simplex_spec.specs.Courses.{rule_by}
use Rattle.simplex_checked.specs.Answers.{IsVector}
use Rattle.infer_systems_laws.specs.Tried.{TriedHaveTasks}
use Rattle.bound_contract.specs.Clear.{AllFineIsClear}
use Rattle.bound_contract.specs.Laws.{ReadingsDecide}
use Rattle.bound_contract.specs.Sites.{system_at, IsSite, FineAt, ClearAt, IsNotKeptAt}
use Rattle.bound_contract.specs.declared.site.Site.{Site}
use Rattle.bound_contract.proofs.Readings.{read_refutes}
use Rattle.bound_contract.proofs.Sited.{site_system, clears, readings}

module _ (site : Site) (h : IsSite site) (tasks : TriedHaveTasks) (pick : List ℤ → ℤ → Option ℕ) (y : List ℕ) (v : IsVector (rule_by pick) (system_at site) y) where
  pub not_kept_here : ReadingsDecide → (numbers : List ℤ) → numbers ≡ map pos y → IsNotKeptAt site numbers
  not_kept_here decide numbers e = subst (IsNotKeptAt site) (sym e) (record {
    none = (readings site h decide pick).not_kept y v.fine.vector;
    refutes = read_refutes (system_at site) (site_system site h tasks) pick y v.fine.vector;
    passes = v.passed;
  })

  pub vector_clear : AllFineIsClear → FineAt site pick → ClearAt site pick
  vector_clear clear fine = (clears site h tasks clear pick).not_kept fine y v.fine v.passed
