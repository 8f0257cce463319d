-- A certificate without fault is held.
use Rattle.std.proofs.Common.{◌≡◌, refl, sym, ◌∙◌, subst, arith, inl, inr}
use Rattle.std.specs.Prelude.{ℕ, zero, suc, ◌+◌, ◌<ℤ◌, pos, ◌||◌, Bool, true, false, cond, List, [], ◌∷◌, ◌++◌, map, length, take, slice_get, Option, None, Some}
use Rattle.std.specs.Option.{option_map}
use Rattle.std.proofs.lemmas.Option.{none-some, same_Some}
use Rattle.std.proofs.lemmas.List.{append-nil, append_assoc}
use Rattle.cost_free.specs.declared.task.Meter.{Meter}
use Rattle.cost_free.specs.declared.task.Meter.TheVariants.{Ticks, Cells, Work}
use Rattle.cost_free.specs.Task as k
use Rattle.cost_free.specs.Task.{Task, Kind, Free, Outcome}
use Rattle.cost_free.specs.Refused.{Plan, has_more, any_has_more, IsRefused}
use Rattle.cost_free.specs.Blocked.{row}
use Rattle.annot_types.specs.Program.{Program, blocker_of}
use Rattle.annot_types.specs.Certificate.{Body, Solved, Refuted, Calls, Block, Certificate, outcome}
use Rattle.annot_types.specs.Held.{IsInPlace, IsOne, NamesBlocker, before, scale_of, scale_for}
use Rattle.rules_spec.specs.Faults as f
use Rattle.cert_check.specs.Fault.{Fault, TooLarge, Unless}
use Rattle.cert_check.specs.Finds.{at_block, large_in, or_task, large_from, schedule, GoesOn, refusal, next_after, BodyFinds, BlockFinds, EndFinds, BlocksFind, HeadFits}
use Rattle.cert_check.specs.Laws.{IsProper, NoFaultIsHeld}
use Rattle.cert_check.proofs.Fitting.{block_holds}

-- where no task is told, no function's result has too many indices
none_large : (plan : Plan) (group : ℕ) (fs : List ℕ) → large_in plan group fs ≡ None → any_has_more 2000 plan fs ≡ false
none_large plan group [] e = refl
none_large plan group (f ∷ fs) e = by (has_more 2000 plan.degree (slice_get plan.results f)) e (none_large plan group fs) where
  by : (b : Bool) → cond b (Some (record { group = group; kind = Free plan.degree f 0 })) (large_in plan group fs) ≡ None →
      (large_in plan group fs ≡ None → any_has_more 2000 plan fs ≡ false) → (b || any_has_more 2000 plan fs) ≡ false
  by true e h = absurd (none-some _ (sym e))
  by false e h = h e

none_in : (plan : Plan) (first : ℕ) (groups : List (List ℕ)) → large_from plan first groups ≡ None → (k : ℕ) → any_has_more 2000 plan (row groups k) ≡ false
none_in plan first [] e k = refl
none_in plan first (fs ∷ groups) e zero = by (large_in plan first fs) refl e where
  by : (o : Option Task) → large_in plan first fs ≡ o → or_task o (large_from plan (first + 1) groups) ≡ None → any_has_more 2000 plan fs ≡ false
  by None h e = none_large plan first fs h
  by (Some t) h e = absurd (none-some t (sym e))
none_in plan first (fs ∷ groups) e (suc k) = none_in plan (first + 1) groups (by (large_in plan first fs) e) k where
  by : (o : Option Task) → or_task o (large_from plan (first + 1) groups) ≡ None → large_from plan (first + 1) groups ≡ None
  by None e = e
  by (Some t) e = absurd (none-some t (sym e))

-- a refusal tells a task
pub refusal_tells : (P : Program) (c : Certificate) (done : List Outcome) → IsRefused 2000 (schedule P c) done → large_from (schedule P c) 0 P.groups ≡ None → ⊥
refusal_tells P c done r e = let h : true ≡ false = sym r.is_large ∙ none_in (schedule P c) 0 P.groups e r.task.group in cc

-- what is left where a test has no fault
pub passed : (good : Type 0) (fault : Fault) (A : Type 0) → Unless good (Some fault) None A → good × A
passed good fault A (inl h) = h
passed good fault A (inr h) = absurd (none-some fault h.1)

module _ (P : Program) (c : Certificate) where
  pub goes_on : (earlier : List Block) (A : Type 0) → Unless (GoesOn P c earlier) (refusal P c) None A → GoesOn P c earlier × A
  goes_on earlier A (inl h) = h
  goes_on earlier A (inr h) = absurd (h.0 (λ r. refusal_tells P c (map outcome earlier) r (none_of (large_from (schedule P c) 0 P.groups) (sym h.1)))) where
    none_of : (o : Option Task) → option_map TooLarge o ≡ None → o ≡ None
    none_of None e = refl
    none_of (Some t) e = absurd (none-some (TooLarge t) (sym e))

  -- what is found in a list of blocks without fault
  pub blocks_pass : (earlier bs : List Block) → BlocksFind P c earlier bs None →
      ((k : ℕ) (b : Block) → slice_get bs k ≡ Some b → BlockFinds P c (earlier ++ take k bs) b None) × EndFinds P c (earlier ++ bs) None
  blocks_pass earlier [] h = (λ k b e. absurd (none-some b e), subst (λ bs. EndFinds P c bs None) (sym (append-nil earlier)) h)
  blocks_pass earlier (b ∷ bs) (inl h) = by (blocks_pass (earlier ++ b ∷ []) bs h.1) where
    same : (xs : List Block) → (earlier ++ b ∷ []) ++ xs ≡ earlier ++ b ∷ xs
    same xs = append_assoc earlier (b ∷ []) xs

    by : ((k : ℕ) (d : Block) → slice_get bs k ≡ Some d → BlockFinds P c ((earlier ++ b ∷ []) ++ take k bs) d None) × EndFinds P c ((earlier ++ b ∷ []) ++ bs) None →
        ((k : ℕ) (d : Block) → slice_get (b ∷ bs) k ≡ Some d → BlockFinds P c (earlier ++ take k (b ∷ bs)) d None) × EndFinds P c (earlier ++ b ∷ bs) None
    by r = (each, subst (λ xs. EndFinds P c xs None) (same bs) r.1) where
      each : (k : ℕ) (d : Block) → slice_get (b ∷ bs) k ≡ Some d → BlockFinds P c (earlier ++ take k (b ∷ bs)) d None
      each zero d e = subst (λ d. BlockFinds P c (earlier ++ []) d None) (same_Some b d e) (subst (λ xs. BlockFinds P c xs b None) (sym (append-nil earlier)) h.0)
      each (suc k) d e = subst (λ xs. BlockFinds P c xs d None) (same (take k bs)) (r.0 k d e)
  blocks_pass earlier (b ∷ bs) (inr h) = absurd (none-some h.0 h.2)

  pub none_at : (number : ℕ) (o : Option f.Fault) → None ≡ option_map (at_block number) o → o ≡ None
  none_at number None e = refl
  none_at number (Some x) e = absurd (none-some (at_block number x) e)

  one_is_one : (kind : Kind) → IsOne kind 1
  one_is_one (Free budget f target) = tt
  one_is_one (k.With meter) = refl

  module _ (proper : IsProper P) where
    -- a block in which nothing is found stands in its place
    in_place : (place : ℕ) (b : Block) → BlockFinds P c (before c place) b None → IsInPlace P c place b
    in_place place b h =
        let scheduled = passed _ _ _ (goes_on (before c place) _ h).1 in
        by b.task b.body scheduled.0.task scheduled.0.waits scheduled.1 where
          by : (task : Task) (body : Body) → next_after P c (before c place) ≡ Some task → NamesBlocker (blocker_of P task (map outcome (before c place))) body → BodyFinds P c (before c place) task body None →
              IsInPlace P c place (record { task = task; body = body })
          by task (Solved sigs hints) e w h =
              let within = passed _ _ _ h in
              let shape = passed _ _ _ within.1 in
              let reach = passed _ _ _ shape.1 in
              record {
                task = e;
                waits = w;
                shape = (shape.0.sigs_rise, shape.0.hints_rise);
                holds = record {
                  t = 1;
                  one = one_is_one task.kind;
                  holds = record {
                    positive = omega arith;
                    solved = tt;
                    functions = block_holds P proper c.degree (before c place) (scale_for c task.kind) task sigs hints shape.0.sigs_fit shape.0.hints_fit
                        (none_at (length (before c place)) _ reach.1);
                    reaches = reach.0;
                  };
                };
              }
          by task (Refuted farkas) e w h = record { task = e; waits = w; shape = (passed _ _ _ h).0; holds = tt }
          by task (Calls f) e w h = record { task = e; waits = w; shape = tt; holds = tt }

scale : (c : Certificate) → HeadFits c → (meter : Meter) → pos 0 <ℤ scale_of c meter
scale c h Ticks = h.ticks
scale c h Cells = h.cells
scale c h Work = h.work

pub no_fault_is_held : NoFaultIsHeld
no_fault_is_held P proper c h =
    let head = passed _ _ _ h in
    let all = blocks_pass P c [] c.blocks head.1 in
    record {
      least_degree = head.0.least;
      most_degree = head.0.most;
      scales = λ meter. scale c head.0 meter;
      blocks = λ place b e. in_place P c proper place b (all.0 place b e);
      ended = (passed _ _ _ (goes_on P c c.blocks _ all.1).1).0;
    }
