-- Where the unknowns of the line's function stand among those of the system.
use Rattle.std.proofs.Common.{◌≡◌, refl, ap, sym, ◌∙◌, subst, arith}
use Rattle.std.specs.Prelude.{ℕ, ◌+◌, ◌≤◌, nat_eq, Bool, true, false, cond, List, [], ◌∷◌, length, slice_get}
use Rattle.std.proofs.lemmas.List.{length-map}
use Rattle.linear_rows.specs.Systems.{LinearSystem}
use Rattle.annot_types.specs.Program.{members}
use Rattle.annot_types.specs.Rules.{With}
use Rattle.annot_types.specs.System.{unsigned}
use Rattle.rules_spec.specs.Tasks.{Body, sides_count}
use Rattle.rules_spec.specs.Told.{bodies_of}
use Rattle.rules_spec.specs.Jobs.{body_of}
use Rattle.rules_spec.proofs.TaskRows.{systems_are_walked}
use Rattle.infer_systems_laws.specs.Tried.{TriedHaveTasks}
use Rattle.bound_contract.specs.System.{first_in, count_in}
use Rattle.bound_contract.specs.Sites.{program_at, certificate_at, before_at, task_at, scale_at, own_at, system_at, first_at, count_at, IsSite}
use Rattle.bound_contract.specs.declared.site.Site.{Site}
use Rattle.bound_contract.proofs.Counting.{rows_at}
use Rattle.bound_contract.proofs.Firsts.{firsts, counts}
use Rattle.bound_contract.proofs.Sited.{site_of, site_task}

-- Beside the task's system, that is where they begin, and how many there are.
pub record IsSpan (site : Site) (made : LinearSystem) (first count : ℕ) : Type 0 where
  pub begins : first ≡ first_at site
  pub counted : count ≡ count_at site
  pub inside : first + count ≤ (own_at site).unknowns
  pub few : first + count ≤ 2000
  pub few_own : (own_at site).unknowns ≤ 2000
  pub rows : length (system_at site).rows ≡ length made.rows + count

-- they are among those of the signatures
span_low : (bs : List Body) (gs : List ℕ) (f next : ℕ) → first_in bs gs f next + count_in bs gs f ≤ next + sides_count bs
span_low [] gs f next = omega arith
span_low (b ∷ bs) [] f next = omega arith
span_low (b ∷ bs) (g ∷ gs) f next = by (nat_eq f g) (span_low bs gs f (next + (b.args + b.result))) where
  by : (t : Bool) → first_in bs gs f (next + (b.args + b.result)) + count_in bs gs f ≤ next + (b.args + b.result) + sides_count bs →
      cond t next (first_in bs gs f (next + (b.args + b.result))) + cond t b.args (count_in bs gs f) ≤ next + (b.args + b.result + sides_count bs)
  by true l = omega arith
  by false l = omega (arith, l)

module _ (site : Site) (h : IsSite site) (tasks : TriedHaveTasks) where
  abbrev pub bodies_at : List Body
  bodies_at = bodies_of (program_at site) (certificate_at site).degree (before_at site) (task_at site)

  abbrev pub group_at : List ℕ
  group_at = members (program_at site) site.group

  pub sides_below : sides_count bodies_at ≤ (own_at site).unknowns
  sides_below =
      let all = ap (λ (s : LinearSystem). s.unknowns) (systems_are_walked (program_at site) (certificate_at site).degree (before_at site) (task_at site) (scale_at site) (site_task site h tasks)) in
      omega (arith, all)

  pub first_is : first_in bodies_at group_at site.fun.0 0 ≡ first_at site
  first_is = firsts (program_at site) group_at (before_at site) (certificate_at site).degree
      (unsigned (program_at site) (certificate_at site).degree (before_at site) (task_at site) (scale_at site)) (With site.meter) refl group_at (site_task site h tasks).0 site.fun.0 0

  pub count_is : count_in bodies_at group_at site.fun.0 ≡ count_at site
  count_is = counts (program_at site) group_at (before_at site) (certificate_at site).degree
      (unsigned (program_at site) (certificate_at site).degree (before_at site) (task_at site) (scale_at site)) (With site.meter) refl group_at (site_task site h tasks).0 site.fun.0 (site_of site h).has

  pub span_fits : first_at site + count_at site ≤ (own_at site).unknowns
  span_fits =
      let low = span_low bodies_at group_at site.fun.0 0 in
      let all = sides_below in
      let first = first_is in
      let count = count_is in
      omega (arith, low, all, first, count)

  -- as the code finds them, where the task's own unknowns are few
  module _ (bodies : List Body) (group : List ℕ) (b : bodies ≡ bodies_at) (g : group ≡ group_at) where
    pub as_many : length bodies ≡ length group
    as_many = ap length b ∙ length-map group_at (λ f. body_of (program_at site) group_at (before_at site) (certificate_at site).degree (slice_get (program_at site).funs f)) ∙ sym (ap length g)

    module _ (made : LinearSystem) (is : made ≡ own_at site) (few : made.unknowns ≤ 2000) where
      few_own : (own_at site).unknowns ≤ 2000
      few_own = subst (λ (s : LinearSystem). s.unknowns ≤ 2000) is few

      pub few_sides : sides_count bodies ≤ 2000
      few_sides = subst (λ (bs : List Body). sides_count bs ≤ 2000) (sym b) (let below = sides_below in let own = few_own in omega (arith, below, own))

      pub span_is : (first count : ℕ) → first ≡ first_in bodies group site.fun.0 0 → count ≡ count_in bodies group site.fun.0 → IsSpan site made first count
      span_is first count f n =
          let begins : first ≡ first_at site = f ∙ (λ i. first_in (b i) (g i) site.fun.0 0) ∙ first_is in
          let counted : count ≡ count_at site = n ∙ (λ i. count_in (b i) (g i) site.fun.0) ∙ count_is in
          let fits = span_fits in
          let own = few_own in
          record {
            begins = begins;
            counted = counted;
            inside = omega (arith, fits, begins, counted);
            few = omega (arith, fits, own, begins, counted);
            few_own = own;
            rows = rows_at site ∙ (λ i. length (sym is i).rows + sym counted i);
          }
