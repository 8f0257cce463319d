-- The schedule past one block more.
use Rattle.std.proofs.Common.{◌≡◌, ap, sym, ◌∙◌, subst}
use Rattle.std.specs.Prelude.{List, [], ◌∷◌, ◌++◌, map, length, Some}
use Rattle.std.proofs.lemmas.List.{map-append}
use Rattle.base_poly.specs.Read.{context_of}
use Rattle.cost_free.specs.Schedule.{next}
use Rattle.cost_free.specs.Task.{Task, Outcome}
use Rattle.cost_free.specs.Blocked.{blocked}
use Rattle.cost_free.specs.Refused.{Plan, Course, next_in, plan_in, IsRefused, gone_on, with_outcome}
use Rattle.call_groups.specs.Calls.{calls_of}
use Rattle.normal_spec.specs.Norm.{NormFun, NormProg}
use Rattle.normal_spec.specs.Two.{norm}
use Rattle.share_normal.specs.Program.{Kept, source_in}
use Rattle.annot_types.specs.Program.{results, called_in, blocker_of}
use Rattle.annot_types.specs.Certificate.{Block, Certificate, has_work, outcome, done_as}
use Rattle.rules_walk.specs.Remembers.{Tables, Remembers}
use Rattle.rules_plan.specs.Read.{program_in}
use Rattle.cert_check.specs.Course.{HasCome}
use Rattle.cert_check.specs.Finds.{schedule, GoesOn, next_after}
use Rattle.cert_check.proofs.Results.{results_are}
use Rattle.rules_spec.proofs.SameCalls.{same_blocker}

module _ (kept : Kept) (count : length kept.results ≡ length kept.functions) (c : Certificate) where
  pub types_are : context_of kept.results ≡ results (program_in kept)
  types_are = sym (results_are kept.results kept.functions count)

  pub next_is : (blocks : List Block) → next (context_of kept.results) kept.groups.list c.degree (has_work c) (map outcome blocks) ≡ next_after (program_in kept) c blocks
  next_is blocks = ap (λ rs. next rs kept.groups.list c.degree (has_work c) (map outcome blocks)) types_are

  pub gone : (blocks : List Block) (b : Block) (course course' : Course) (t t' : Tables) → HasCome kept c blocks course t →
      next_after (program_in kept) c blocks ≡ Some b.task → course' ≡ gone_on (done_as b.body) course →
      Remembers (program_in kept) c.degree (blocks ++ b ∷ []) t' → HasCome kept c (blocks ++ b ∷ []) course' t'
  gone blocks b course course' t t' h e g r = record {
    course_is = g ∙ ap (gone_on (done_as b.body)) h.course_is ∙ (λ i. record {
      results = kept.results;
      groups = kept.groups.list;
      degree = c.degree;
      work = has_work c;
      done = (ap (λ o. with_outcome (done_as b.body) o (map outcome blocks)) (next_is blocks ∙ e) ∙ sym (map-append outcome blocks (b ∷ []))) i;
    });
    remembers = r;
  }

  module _ (blocks : List Block) (course : Course) (t : Tables) (h : HasCome kept c blocks course t) where
    plan_is : plan_in course ≡ schedule (program_in kept) c
    plan_is = ap plan_in h.course_is ∙ (λ i. record { results = types_are i; groups = kept.groups.list; degree = c.degree; work = has_work c })

    pub done_is : course.done ≡ map outcome blocks
    done_is = ap (λ (x : Course). x.done) h.course_is

    pub next_there : next_in (plan_in course) course.done ≡ next_after (program_in kept) c blocks
    next_there = λ i. next_in (plan_is i) (done_is i)

    refused_after : IsRefused 2000 (plan_in course) course.done → IsRefused 2000 (schedule (program_in kept) c) (map outcome blocks)
    refused_after r = subst (λ (x : Plan × List Outcome). IsRefused 2000 x.0 x.1) (λ i. (plan_is i, done_is i)) r

    pub refused_there : IsRefused 2000 (plan_in course) course.done → GoesOn (program_in kept) c blocks → ⊥
    refused_there r g = g (refused_after r)

    pub refused_somewhere : IsRefused 2000 (plan_in course) course.done → (done : List Outcome) × IsRefused 2000 (schedule (program_in kept) c) done
    refused_somewhere r = (map outcome blocks, refused_after r)

    pub goes_there : (IsRefused 2000 (plan_in course) course.done → ⊥) → GoesOn (program_in kept) c blocks
    goes_there g r = g (subst (λ (x : Plan × List Outcome). IsRefused 2000 x.0 x.1) (λ i. (sym plan_is i, sym done_is i)) r)

    pub blocker_there : (N : NormProg) → program_in kept ≡ record { funs = N; groups = kept.groups.list } → N ≡ norm (source_in kept) →
        kept.groups.calls ≡ calls_of (source_in kept) → (task : Task) →
        blocked kept.groups.list kept.groups.calls task course.done ≡ blocker_of (program_in kept) task (map outcome blocks)
    blocker_there N p e calls task =
        (λ i. blocked kept.groups.list (calls i) task (done_is i))
        ∙ sym (same_blocker (source_in kept) kept.groups.list task (map outcome blocks))
        ∙ ap (λ N. blocked kept.groups.list (map (λ (g : NormFun). called_in g.body) N) task (map outcome blocks)) (sym e)
        ∙ ap (λ P. blocker_of P task (map outcome blocks)) (sym p)
