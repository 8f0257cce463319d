-- What is told where the schedule does not go on.
use Rattle.std.proofs.Common.{◌≡◌, ◌≢◌, inr, ℕ, zero, suc, ◌+◌, ◌<◌, cond, Bool, true, false, ◌||◌, List, [], ◌∷◌, filter, slice_get, Some, None, refl, sym, ap, ◌∙◌, arith}
use Rattle.std.specs.List.{list_any}
use Rattle.cost_free.specs.Task.{Free, Task}
use Rattle.cost_free.specs.Read.{task_of}
use Rattle.cost_free.specs.Blocked.{row}
use Rattle.cost_free.specs.Refused.{Plan, has_more}
use Rattle.cert_check.specs.Finds.{or_task, large_in, large_from}
use Rattle.infer_spec.specs.States.{State}
use Rattle.infer_spec.specs.Generator.{Analysis, Generates, plan, IsRefusedAt}
use Rattle.infer_spec.specs.Places as p
use Rattle.infer_spec.proofs.Running.{runs}
use Rattle.bound_infer.specs.After.{Reached, StopsIn}
use Rattle.bound_infer.specs.Found.{IsRefusal}
use Rattle.bound_infer.specs.declared.refusal.InferFault.{InferFault}
use Rattle.bound_infer.specs.declared.refusal.InferFault.TheVariants as i
use Rattle.bound_infer.proofs.Coming.{none_large}

module _ (plan : Plan) where
  abbrev large : ℕ → Bool
  large f = has_more 2000 plan.degree (slice_get plan.results f)

  -- the first function of a group whose result is too large
  record FirstLarge (group : ℕ) (fs : List ℕ) : Type 0 where
    fun : ℕ
    first : slice_get (filter large fs) 0 ≡ Some fun
    found : large_in plan group fs ≡ Some (record { group = group; kind = Free plan.degree fun 0 })

  in_group : (group : ℕ) (fs : List ℕ) → list_any large fs ≡ true → FirstLarge group fs
  in_group group [] h = absurd (cc)
  in_group group (f ∷ fs) h = by (large f) refl (in_group group fs) h
    where
      by : (b : Bool) → large f ≡ b → (list_any large fs ≡ true → FirstLarge group fs) → (b || list_any large fs) ≡ true → FirstLarge group (f ∷ fs)
      by true e rest h = record {
        fun = f;
        first = λ i. slice_get (cond (e i) (f ∷ filter large fs) (filter large fs)) 0;
        found = λ i. cond (e i) (Some (record { group = group; kind = Free plan.degree f 0 })) (large_in plan group fs);
      }
      by false e rest h =
          let r = rest h in
          record {
            fun = r.fun;
            first = (λ i. slice_get (cond (e i) (f ∷ filter large fs) (filter large fs)) 0) ∙ r.first;
            found = (λ i. cond (e i) (Some (record { group = group; kind = Free plan.degree f 0 })) (large_in plan group fs)) ∙ r.found;
          }

  none_in : (group : ℕ) (fs : List ℕ) → (list_any large fs ≡ true → ⊥) → large_in plan group fs ≡ None
  none_in group [] h = refl
  none_in group (f ∷ fs) h = by (large f) refl (none_in group fs) h
    where
      by : (b : Bool) → large f ≡ b → ((list_any large fs ≡ true → ⊥) → large_in plan group fs ≡ None) → ((b || list_any large fs) ≡ true → ⊥) → large_in plan group (f ∷ fs) ≡ None
      by true e rest h = absurd (h refl)
      by false e rest h = (λ i. cond (e i) (Some (record { group = group; kind = Free plan.degree f 0 })) (large_in plan group fs)) ∙ rest h

  -- of the first group that has one
  first_group : (start : ℕ) (groups : List (List ℕ)) (g : ℕ) → list_any large (row groups g) ≡ true → ((n : ℕ) → n < g → list_any large (row groups n) ≡ true → ⊥) →
      (fun : ℕ) × (slice_get (filter large (row groups g)) 0 ≡ Some fun) × (large_from plan start groups ≡ Some (record { group = start + g; kind = Free plan.degree fun 0 }))
  first_group start [] zero h none = absurd (cc)
  first_group start [] (suc g) h none = absurd (cc)
  first_group start (fs ∷ groups) zero h none =
      let r = in_group start fs h in
      (r.fun, r.first, ap (λ o. or_task o (large_from plan (start + 1) groups)) r.found ∙ (λ i. Some (record { group = same start i; kind = Free plan.degree r.fun 0 })))
    where
      same : (n : ℕ) → n ≡ n + 0
      same n = omega arith
  first_group start (fs ∷ groups) (suc g) h none =
      let r = first_group (start + 1) groups g h (λ n l. none (suc n) (omega (arith, l))) in
      (r.0, r.1, ap (λ o. or_task o (large_from plan (start + 1) groups)) (none_in start fs (none 0 (omega arith))) ∙ r.2 ∙ (λ i. Some (record { group = same start g i; kind = Free plan.degree r.0 0 })))
    where
      same : (m n : ℕ) → m + 1 + n ≡ m + suc n
      same m n = omega arith

module _ (A : Analysis) (g : Generates A) (st : State) (h : Reached A st) (refused : IsRefusedAt A st) where
  told : (fun : ℕ) × (slice_get (filter (large (plan A)) (row A.program.groups refused.task.group)) 0 ≡ Some fun)
      × (large_from (plan A) 0 A.program.groups ≡ Some (record { group = refused.task.group; kind = Free A.degree fun 0 }))
  told =
      let r = runs A g h.findings st h.course in
      let found = first_group (plan A) 0 A.program.groups refused.task.group refused.is_large
      (λ n l. none_large (plan A) st.blocks
      (record { tasks = λ k b there. (let f = r.fits k b there in f.task); goes = λ k b there. (let f = r.fits k b there in f.goes_on) })
      refused.task refused.is_next n l) in
      (found.0, found.1, found.2 ∙ (λ i. Some (record { group = same refused.task.group i; kind = Free A.degree found.0 0 })))
    where
      same : (n : ℕ) → 0 + n ≡ n
      same n = omega arith

  pub is_told : large_from (plan A) 0 A.program.groups ≢ None
  is_told e = let t = told.2 in let wrong = sym t ∙ e in cc

  pub stops : (fault : InferFault) → IsRefusal (large_from (plan A) 0 A.program.groups) fault → StopsIn A st fault
  stops (i.TooLarge task what) r = inr (record {
    refused = refused;
    fun = told.0;
    first = told.1;
    is = some_is (task_of task) _ (sym r.0 ∙ told.2);
    place = ap p.TooLarge r.1;
  })
    where
      some_is : (a b : Task) → Some a ≡ Some b → a ≡ b
      some_is a b e = cc
  stops (i.Leaves at) r = absurd r
  stops i.NoMemory r = tt
