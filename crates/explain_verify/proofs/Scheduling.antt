-- The schedule behind the first blocks.
use Rattle.std.proofs.Common.{◌≡◌, ◌∙◌, ℕ, List, map, take, length, sym, ap, subst}
use Rattle.raml_syntax.specs.Tree.{Type'}
use Rattle.raml_syntax.specs.declared.ty.Ty.{Ty}
use Rattle.base_poly.specs.Read.{context_of}
use Rattle.call_groups.specs.Groups.{Grouping}
use Rattle.normal_spec.specs.Norm as n
use Rattle.normal_spec.specs.Read.{funs_of}
use Rattle.normal_spec.specs.declared.form.NormFun.{NormFun}
use Rattle.cost_free.specs.Schedule.{next}
use Rattle.cost_free.specs.Refused.{Plan, IsRefused}
use Rattle.cost_free.specs.Task.{Outcome}
use Rattle.cost_free.specs.Read.{outcomes_of}
use Rattle.cert_check.proofs.Results.{results_are}
use Rattle.explain_verify.specs.Told.{next_at, DoesNotGoOn}
use Rattle.explain_verify.specs.Read.{subject_in}
use Rattle.explain_verify.specs.declared.message.Subject.{Subject}

module _ (s : Subject) (block count : ℕ) (results : List Ty) (functions : List NormFun) (groups : Grouping) (before : List Outcome)
    (results_is : results ≡ s.program.now.results) (result_count : length results ≡ count) (functions_is : functions ≡ s.program.now.functions) (function_count : length functions ≡ count)
    (groups_is : groups ≡ s.program.now.groups) (before_is : before ≡ take block (outcomes_of s.outline.now.done.items)) where
  types_are : context_of results ≡ map (λ (g : n.NormFun). g.result) (funs_of s.program.now.results s.program.now.functions)
  types_are =
      ap context_of results_is
      ∙ sym (results_are s.program.now.results s.program.now.functions (sym (ap length results_is) ∙ result_count ∙ sym function_count ∙ ap length functions_is))

  pub next_is : next (context_of results) groups.list s.outline.now.degree s.outline.now.work before ≡ next_at (subject_in s) block
  next_is = λ i. next (types_are i) (groups_is i).list s.outline.now.degree s.outline.now.work (before_is i)

  pub refused_is : IsRefused 2000 (record { results = context_of results; groups = groups.list; degree = s.outline.now.degree; work = s.outline.now.work }) before → DoesNotGoOn (subject_in s) block
  refused_is h =
      let plan : List Type' → Grouping → Plan = λ As g. record { results = As; groups = g.list; degree = s.outline.now.degree; work = s.outline.now.work } in
      let all = map (λ (g : n.NormFun). g.result) (funs_of s.program.now.results s.program.now.functions) in
      subst (λ done. IsRefused 2000 (plan all s.program.now.groups) done) before_is
      (subst (λ g. IsRefused 2000 (plan all g) before) groups_is (subst (λ As. IsRefused 2000 (plan As groups) before) types_are h))
