-- Where a block's target is reached, and where it is missed.
use Rattle.std.proofs.Common.{◌≡◌, refl, ap, sym, ◌∙◌, subst, inr}
use Rattle.std.specs.Prelude.{ℕ, List, [], ◌∷◌, length, slice_get, Option, None, Some}
use Rattle.std.specs.Option.{unwrap_or}
use Rattle.std.proofs.lemmas.Option.{none-some, same_Some}
use Rattle.raml_syntax.specs.Tree.{Type'}
use Rattle.normal_spec.specs.Norm.{NormFun}
use Rattle.cost_free.specs.Read.{task_of}
use Rattle.base_poly.specs.Plain.{Plain}
use Rattle.cost_free.specs.Target.{targets}
use Rattle.cost_free.specs.Task.{Kind, Free, Task}
use Rattle.rules_spec.specs.Planned.{place_in}
use Rattle.annot_types.specs.Program.{members}
use Rattle.annot_types.specs.Certificate as c
use Rattle.annot_types.specs.Certificate.{annotation, Sig, Certificate}
use Rattle.annot_types.specs.Signature.{sig_among}
use Rattle.annot_types.specs.Holds.{Reaches, ReachesTarget, CoversTarget}
use Rattle.cert_check.specs.Fault.{Fails}
use Rattle.cert_check.specs.Finds.{missing_in, missed_at, TargetFinds}
use Rattle.cert_check.specs.Results.{HasResult}
use Rattle.cert_check.specs.Covering.{IsReached, IsMissed}
use Rattle.cert_check.specs.At.{ReachesAt, MissesAt, program_at}
use Rattle.cert_check.specs.declared.at.At.{At}

module _ (at : At) (sigs : List Sig) (budget f target : ℕ) where
  abbrev d : ℕ
  d = at.degree

  abbrev found_sig : Option Sig
  found_sig = sig_among (members (program_at at) at.task.group) sigs f

  -- without a signature, or without the function
  pub no_sig : found_sig ≡ None → MissesAt at sigs budget f target 0
  no_sig e = record {
    not_reached = λ degree same hints r. none-some r.sig (sym e ∙ r.signed);
    first = by (slice_get (program_at at).funs f) ∙ ap (missing_in d budget target (slice_get (program_at at).funs f)) (sym e);
  } where
    by : (o : Option NormFun) → 0 ≡ missing_in d budget target o None
    by None = refl
    by (Some g) = refl

  pub no_function : slice_get (program_at at).funs f ≡ None → MissesAt at sigs budget f target 0
  no_function e = record {
    not_reached = λ degree same hints r. none-some r.fun (sym e ∙ r.there);
    first = ap (λ o. missing_in d budget target o found_sig) (sym e);
  }

  module _ (s : Sig) (signed : found_sig ≡ Some s) (A : Type') (g : HasResult (program_at at).funs f A) where
    pub reaches_at : IsReached A d budget target (annotation s.result) → ReachesAt at sigs budget f target
    reaches_at r degree same hints =
        let q = subst (λ n. IsReached g.fun.result n budget target (annotation s.result)) same
        (subst (λ B. IsReached B d budget target (annotation s.result)) (sym g.is) r) in
        record { fun = g.fun; there = g.there; target = q.target; numbered = q.numbered; sig = s; signed = signed; covers = q.covers }

    pub misses_at : (index : ℕ) → IsMissed A d budget target (annotation s.result) index → MissesAt at sigs budget f target index
    misses_at index m =
        let n = subst (λ B. IsMissed B d budget target (annotation s.result) index) (sym g.is) m in
        record {
          not_reached = λ degree same hints x. let r = subst (λ n. Reaches (program_at at) n budget f target (record { task = task_of at.task; body = c.Solved sigs hints }) 1) (sym same) x in n.not_reached (reached_by r.fun (same_Some r.fun g.fun (sym r.there ∙ g.there)) r.target r.numbered
              r.sig (same_Some r.sig s (sym r.signed ∙ signed)) r.covers);
          first = n.first ∙ (λ i. missing_in d budget target (sym g.there i) (sym signed i));
        } where
          reached_by : (h : NormFun) → h ≡ g.fun → (t : List (List Plain)) → slice_get (targets h.result d) target ≡ Some t → (x : Sig) → x ≡ s →
              CoversTarget h.result budget (annotation x.result) 1 t → IsReached g.fun.result d budget target (annotation s.result)
          reached_by h e t n x k c = record {
            target = t;
            numbered = subst (λ h. slice_get (targets h.result d) target ≡ Some t) e n;
            covers = subst (λ h. CoversTarget h.result budget (annotation s.result) 1 t) e (subst (λ x. CoversTarget h.result budget (annotation x.result) 1 t) k c);
          }

-- what is found in a target that is missed
pub miss_found : (at : At) (held : Certificate) → at.degree ≡ held.degree → (blocks : List c.Block) (group : ℕ) (kind : Kind) (sigs : List Sig) (hints : List (List c.Hint)) (budget f target index : ℕ) →
    task_of at.task ≡ record { group = group; kind = kind } → kind ≡ Free budget f target → length blocks ≡ at.number → MissesAt at sigs budget f target index →
    TargetFinds (program_at at) held blocks (record { group = group; kind = kind }) sigs hints
    (Some (Fails at.number (unwrap_or (place_in (members (program_at at) group) f) 0 ∷ []) index))
miss_found at held same blocks group kind sigs hints budget f target index t e n m =
    let g : at.task.group ≡ group = ap (λ (t : Task). t.group) t in
    inr (
      (λ r. m.not_reached held.degree same hints (subst (λ t. Reaches (program_at at) held.degree budget f target (record { task = t; body = c.Solved sigs hints }) 1) (sym t)
          (subst (λ k. ReachesTarget (program_at at) held.degree (record { task = record { group = group; kind = kind }; body = c.Solved sigs hints }) 1 k) e r))),
      (λ i. Some (Fails (sym n i) (unwrap_or (place_in (members (program_at at) group) f) 0 ∷ [])
          ((m.first ∙ (λ j. missing_in (same j) budget target (slice_get (program_at at).funs f) (sig_among (members (program_at at) (g j)) sigs f))) i)))
          ∙ ap (λ k. Some (missed_at (program_at at) held (length blocks) (members (program_at at) group) sigs k)) (sym e),
    )
