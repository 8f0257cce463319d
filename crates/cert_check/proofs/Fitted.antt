-- Where the functions of a group hold, all conditions of the bodies are met.
use Rattle.std.proofs.Common.{◌≡◌, ap, sym, ◌∙◌, subst, arith}
use Rattle.std.specs.Prelude.{ℕ, suc, ◌+◌, ◌*◌, List, [], ◌∷◌, ◌++◌, slice_get, slice_index_or, Option, Some}
use Rattle.normal_spec.specs.Norm.{NormFun}
use Rattle.normal_spec.specs.Context.{types}
use Rattle.cost_free.specs.Task.{Task}
use Rattle.annot_types.specs.Program.{Program, members}
use Rattle.annot_types.specs.Certificate as c
use Rattle.annot_types.specs.Certificate.{annotation, Rise, Sig, Hint, Solved, Block}
use Rattle.annot_types.specs.Rules.{Setting}
use Rattle.annot_types.specs.Held.{HintsRise, AllHintsRise}
use Rattle.annot_types.specs.Holds.{mode_of, budget_of, setting, FunctionHolds, FunctionsHold}
use Rattle.rules_spec.specs.Numbers as n
use Rattle.rules_spec.specs.Numbers.{Condition}
use Rattle.rules_spec.specs.Kinds.{Amount, amounts, AllMeet}
use Rattle.rules_spec.specs.Tasks as t
use Rattle.rules_spec.specs.Tasks.{of_body, of_bodies}
use Rattle.rules_spec.specs.Jobs.{job_of}
use Rattle.rules_spec.specs.Asked.{Ask, ResultsOf, CopiesOf, MultiplesOf, asked}
use Rattle.rules_spec.specs.Stand.{Within, Answers, Answered}
use Rattle.rules_spec.specs.Shape.{FitsAsk, FitAsks, hints_at}
use Rattle.rules_spec.specs.Found.{signature, sides, group_from}
use Rattle.rules_spec.proofs.Ruled.{annotates_within}
use Rattle.rules_spec.proofs.Asking.{rules_ask}
use Rattle.rules_spec.proofs.Shaped.{each_within, are_among}
use Rattle.cert_check.specs.Finds.{SigsFit, HintsFit, all_hints_at, job_conditions}
use Rattle.cert_check.specs.Laws.{IsProper}
use Rattle.cert_check.proofs.Fitting.{here, J, body, bodies, whole, none, tells, found_with, before_once, sides_are}

-- Hints that answer what is asked for, and whose numbers rise, fit it.
fits_ask : (ask : Ask) (h : Hint) (x : n.Hint Amount) → Answers ask h x → HintsRise (h ∷ []) → FitsAsk ask h
fits_ask (ResultsOf sizes) (c.Let results) (n.Results qs) a r = each_within sizes qs results a
fits_ask (CopiesOf size) (c.Share copies) (n.Copies q) a r = a.0
fits_ask (MultiplesOf blocks) (c.Call multiples) (n.Multiples xs) a r = (r.0, are_among blocks xs multiples a)
fits_ask ask h x a r = absurd a

answered_fits : (asks : List Ask) (hs : List Hint) (xs left : List (n.Hint Amount)) → Answered asks hs xs [] left → HintsRise hs → FitAsks asks hs
answered_fits [] [] xs left a r = tt
answered_fits [] (h ∷ hs) xs left a r = absurd (let no : h ∷ hs ≡ [] = a.0 in cc)
answered_fits (ask ∷ asks) [] xs left a r = absurd a
answered_fits (ask ∷ asks) (h ∷ hs) [] left a r = absurd a
answered_fits (ask ∷ asks) (h ∷ hs) (x ∷ xs) left a r = (fits_ask ask h x a.0 (r.0, tt), answered_fits asks hs xs left a.1 r.1)

both_are_met : (cs ds : List (Condition Amount)) → AllMeet cs → AllMeet ds → AllMeet (cs ++ ds)
both_are_met [] ds h k = k
both_are_met (c ∷ cs) ds h k = (h.0, both_are_met cs ds h.1 k)

module _ (P : Program) (proper : IsProper P) (d : ℕ) (earlier : List Block) (task : Task) (scale : ℕ) (sigs : List Sig) where
  abbrev S : Setting
  S = here P proper d earlier task scale sigs

  abbrev body_at : Option NormFun → t.Body
  body_at o = body P proper d earlier task scale sigs o

  abbrev bodies_at : List ℕ → List t.Body
  bodies_at fs = bodies P proper d earlier task scale sigs fs

  -- the shape of what holds
  one_fits : (f : ℕ) (s : Sig) (hs : List Hint) → FunctionHolds S (mode_of task.kind) f s hs → HintsRise hs →
      let b = body_at (slice_get P.funs f) in Within b.args s.args × Within b.result s.result × FitAsks (asked b.plan) hs
  one_fits f s hs h r =
      subst (λ o. let b = body_at o in Within b.args s.args × Within b.result s.result × FitAsks (asked b.plan) hs) (sym h.there) (
        annotates_within (types h.fun.params) S.budget s.args h.args,
        annotates_within (h.fun.result ∷ []) S.budget s.result h.result,
        (let x = rules_ask S h.fun.body (mode_of task.kind) S.budget h.fun.params (annotation s.args) h.fun.result (annotation s.result) hs [] h.fits [] in
            answered_fits (asked (body_at (Some h.fun)).plan) hs x.0 [] x.1 r),
      )

  pub functions_fit : (fs : List ℕ) (ss : List Sig) (hss : List (List Hint)) → FunctionsHold S (mode_of task.kind) fs ss hss → AllHintsRise hss →
      SigsFit (bodies_at fs) ss × HintsFit (bodies_at fs) hss
  functions_fit [] [] [] h r = (tt, tt)
  functions_fit [] [] (hs ∷ hss) h r = absurd h
  functions_fit [] (s ∷ ss) hss h r = absurd h
  functions_fit (f ∷ fs) [] hss h r = absurd h
  functions_fit (f ∷ fs) (s ∷ ss) [] h r = absurd h
  functions_fit (f ∷ fs) (s ∷ ss) (hs ∷ hss) h r =
      let one = one_fits f s hs h.0 r.0 in
      let rest = functions_fit fs ss hss h.1 r.1 in
      ((one.0, one.1, rest.0), (one.2, rest.1))

  module _ (fit : SigsFit (bodies_at (members P task.group)) sigs) where
    abbrev all : List (n.Sides Amount)
    all = whole P proper d earlier task scale sigs

    abbrev job_at : t.Job
    job_at = J P proper d earlier task scale sigs

    -- the conditions of one function, with its signature at its place and its hints
    one_meets : (place f : ℕ) (s : Sig) (hs : List Hint) → FunctionHolds S (mode_of task.kind) f s hs → HintsRise hs →
        slice_index_or all place (none P proper d earlier task scale sigs fit) ≡ sides (signature (slice_get P.funs f) S.budget (Some s)) →
        let b = body_at (slice_get P.funs f) in AllMeet (of_body (amounts 1) job_at all place b (hints_at (asked b.plan) hs)).found
    one_meets place f s hs h r at =
        let g = h.fun in
        let there : slice_get P.funs f ≡ Some g = h.there in
        let one = subst (λ o. let b = body_at o in Within b.args s.args × Within b.result s.result × FitAsks (asked b.plan) hs) there (one_fits f s hs h r) in
        let same : slice_index_or all place (none P proper d earlier task scale sigs fit) ≡ sides (signature (Some g) S.budget (Some s)) =
        at ∙ ap (λ o. sides (signature o S.budget (Some s))) there in
        let met = (tells P proper d earlier task scale sigs fit place f g there s hs (one.0, one.1) one.2 same).to h.fits in
        subst (λ o. let b = body_at o in AllMeet (of_body (amounts 1) job_at all place b (hints_at (asked b.plan) hs)).found) (sym there)
        (subst (λ x. AllMeet (found_with P proper d earlier task scale sigs fit place f g there s hs (one.0, one.1) one.2 same x)) (sym same) met)

    pub functions_meet : (place : ℕ) (fs : List ℕ) (ss : List Sig) (hss : List (List Hint)) → FunctionsHold S (mode_of task.kind) fs ss hss → AllHintsRise hss →
        ((j : ℕ) → slice_index_or all (place + j) (none P proper d earlier task scale sigs fit) ≡ slice_index_or (group_from S fs ss) j (none P proper d earlier task scale sigs fit)) →
        AllMeet (of_bodies (amounts 1) job_at all place (bodies_at fs) (all_hints_at (bodies_at fs) hss))
    functions_meet place [] [] [] h r at = tt
    functions_meet place [] [] (hs ∷ hss) h r at = absurd h
    functions_meet place [] (s ∷ ss) hss h r at = absurd h
    functions_meet place (f ∷ fs) [] hss h r at = absurd h
    functions_meet place (f ∷ fs) (s ∷ ss) [] h r at = absurd h
    functions_meet place (f ∷ fs) (s ∷ ss) (hs ∷ hss) h r at =
        let b = body_at (slice_get P.funs f) in
        both_are_met (of_body (amounts 1) job_at all place b (hints_at (asked b.plan) hs)).found
        (of_bodies (amounts 1) job_at all (suc place) (bodies_at fs) (all_hints_at (bodies_at fs) hss))
        (one_meets place f s hs h.0 r.0 (ap (λ j. slice_index_or all j (none P proper d earlier task scale sigs fit)) (omega arith) ∙ at 0))
        (functions_meet (suc place) fs ss hss h.1 r.1 (λ j. ap (λ i. slice_index_or all i (none P proper d earlier task scale sigs fit)) (omega arith) ∙ at (suc j)))

-- what a block that holds is tried by
pub record Tried (P : Program) (d : ℕ) (earlier : List Block) (task : Task) (scale : ℕ) (sigs : List Sig) (hints : List (List Hint)) : Type 0 where
  pub sigs_fit : SigsFit (job_of P d earlier task scale).bodies sigs
  pub hints_fit : HintsFit (job_of P d earlier task scale).bodies hints
  pub all_meet : AllMeet (job_conditions (job_of P d earlier task scale) sigs hints)

-- The functions of a block hold over the blocks before it: then they have the shape that is asked for, and meet all its conditions.
pub block_meets : (P : Program) → IsProper P → (d : ℕ) (earlier : List Block) (scale : ℕ) (task : Task) (sigs : List Sig) (hints : List (List Hint)) →
    FunctionsHold (setting P d earlier scale (record { task = task; body = Solved sigs hints }) 1) (mode_of task.kind) (members P task.group) sigs hints →
    AllHintsRise hints → Tried P d earlier task scale sigs hints
block_meets P proper d earlier scale task sigs hints h r =
    let fs = members P task.group in
    let X : Setting = here P proper d earlier task scale sigs in
    let once : setting P d earlier scale (record { task = task; body = Solved sigs hints }) 1 ≡ X = (λ i. record {
      program = P;
      earlier = before_once task.kind earlier i;
      group = fs;
      sigs = sigs;
      budget = budget_of d task.kind;
      scale = times_one scale i;
    }) in
    let hold : FunctionsHold X (mode_of task.kind) fs sigs hints = subst (λ S. FunctionsHold S (mode_of task.kind) fs sigs hints) once h in
    let fit = functions_fit P proper d earlier task scale sigs fs sigs hints hold r in
    let j = job_of P d earlier task scale in
    record {
      sigs_fit = fit.0;
      hints_fit = fit.1;
      all_meet = subst (λ group. AllMeet (of_bodies (amounts 1) j group 0 j.bodies (all_hints_at j.bodies hints))) (sym (sides_are P proper d earlier task scale sigs fs sigs))
          (functions_meet P proper d earlier task scale sigs fit.0 0 fs sigs hints hold r
          (λ k. ap (λ j. slice_index_or (group_from X fs sigs) j (record { args = []; result = [] })) (zero_plus k)));
    } where
      times_one : (n : ℕ) → n * 1 ≡ n
      times_one n = omega arith

      zero_plus : (n : ℕ) → 0 + n ≡ n
      zero_plus n = omega arith
