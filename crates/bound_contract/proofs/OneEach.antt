-- A solution that is read has a natural number for each unknown of its task.
use Rattle.std.proofs.Common.{◌≡◌, refl, sym, ap, ◌∙◌, subst, arith}
use Rattle.std.specs.Prelude.{ℕ, ◌≤◌, ℤ, pos, List, length, map}
use Rattle.raml_num.specs.Sums.{NoneNegative}
use Rattle.linear_rows.specs.Systems.{Solves}
use Rattle.rules_spec.specs.Told.{bodies_of}
use Rattle.constraint_gen.specs.Given.{unknowns_of}
use Rattle.constraint_gen.proofs.Whole.{counted_in}
use Rattle.infer_systems_laws.specs.Tried.{TriedHaveTasks}
use Rattle.infer_systems_laws.specs.Analysed.{generator_of}
use Rattle.infer_systems_laws.proofs.Below.{stays_below}
use Rattle.bound_contract.specs.Sites.{program_at, certificate_at, before_at, task_at, scale_at, own_at, system_at, IsSite, IsReadAt}
use Rattle.bound_contract.specs.declared.site.Site.{Site}
use Rattle.bound_contract.proofs.Readings.{read_solves}
use Rattle.bound_contract.proofs.Sited.{site_task, site_system}

module _ (site : Site) (h : IsSite site) (tasks : TriedHaveTasks) (times : ℤ) (numbers : List ℤ) (read : IsReadAt site times numbers) where
  solves : Solves (system_at site) (map pos read.x) (pos read.t)
  solves = let fits = read.reads in read_solves (system_at site) (site_system site h tasks) read.pick read.t read.x fits.solution

  as_many : length numbers ≡ (own_at site).unknowns
  as_many = ap length read.numbers_are ∙ solves.one_each

  pub one_each : length numbers ≡ unknowns_of (bodies_of (program_at site) (certificate_at site).degree (before_at site) (task_at site))
  one_each = as_many ∙ counted_in (program_at site) (certificate_at site).degree (before_at site) (task_at site) (scale_at site) refl (site_task site h tasks)

  pub few : length numbers ≤ 2000
  few =
      let below = stays_below (generator_of (program_at site) (certificate_at site).degree) (task_at site) (own_at site) h.within in
      let low = below.unknowns in
      let count = as_many in
      omega (arith, low, count)

  pub natural : NoneNegative numbers
  natural = subst NoneNegative (sym read.numbers_are) solves.natural
