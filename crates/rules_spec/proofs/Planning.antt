-- Where the blocks of a meter are raised, plans stay as they are, and what was paid for still is.
use Rattle.std.proofs.Common.{◌≡◌, refl, ap, ◌∙◌, subst}
use Rattle.std.specs.Prelude.{ℕ, suc, cond, List, [], ◌∷◌, ◌++◌, map, slice_get, Option, None, Some, option_map}
use Rattle.raml_syntax.specs.Tree.{Type'}
use Rattle.normal_spec.specs.Norm as n
use Rattle.normal_spec.specs.Norm.{Norm, NormFun}
use Rattle.normal_spec.specs.Context.{Context, types, without, opened, parts_of, copies_of, inners, others}
use Rattle.normal_spec.specs.Uses.{Uses}
use Rattle.cost_free.specs.declared.task.Meter.{Meter}
use Rattle.cost_free.specs.Task.{Task}
use Rattle.annot_types.specs.Program.{Program, members, called_in}
use Rattle.annot_types.specs.Certificate.{Sig, Block}
use Rattle.annot_types.specs.Signature.{sig_in, free_budget, cost_sig}
use Rattle.annot_types.specs.Carried.{tuples}
use Rattle.annot_types.specs.Holds.{times_sig, budget_of}
use Rattle.annot_types.specs.Rules.{Mode, With, Setting}
use Rattle.annot_types.specs.Rows.{size as size_of}
use Rattle.annot_types.proofs.Times.{BlocksTimes, cost_times}
use Rattle.rules_spec.specs.Plan.{Moves, Pays, Forks, Shares, Calls, Lets}
use Rattle.rules_spec.specs.Planned.{is_usable, usable_from, lower, let_part, leaving_step, opening_step, sharing_step, called, plan}
use Rattle.rules_spec.specs.Jobs.{body_of}
use Rattle.rules_spec.specs.Systems.{PaidFor, AllPaid, AreReady}
use Rattle.rules_spec.specs.Told.{bodies_of}

module _ (P : Program) (u : ℕ) (m : Mode) where
  usable_kept : (d f k : ℕ) (bs cs : List Block) → BlocksTimes u P m bs cs → usable_from k P d f cs ≡ usable_from k P d f bs
  usable_kept d f k [] [] h = refl
  usable_kept d f k [] (c ∷ cs) h = absurd h
  usable_kept d f k (b ∷ bs) [] h = absurd h
  usable_kept d f k (b ∷ bs) (c ∷ cs) h =
      let rest = usable_kept d f (suc k) bs cs h.1 in
      λ i. cond ((ap (λ (t : Task). is_usable d (free_budget t.kind) (sig_in P c f)) h.0.task ∙ by (free_budget b.task.kind) refl) i) (k ∷ rest i) (rest i) where
        by : (o : Option ℕ) → free_budget b.task.kind ≡ o → is_usable d o (sig_in P c f) ≡ is_usable d o (sig_in P b f)
        by None e = refl
        by (Some budget) e = ap (is_usable d (Some budget)) (h.0.free budget e f)

  module _ (group : List ℕ) (bs cs : List Block) (h : BlocksTimes u P m bs cs) (budget : ℕ) where
    plan_kept : (e : Norm) (C : Context) (T : Type') (d : ℕ) → plan P group cs budget e C T d ≡ plan P group bs budget e C T d
    plan_kept (n.Var k x) C T d = refl
    plan_kept (n.Number k i) C T d = refl
    plan_kept (n.Truth k b) C T d = refl
    plan_kept (n.Nil k) C T d = refl
    plan_kept (n.Leaf k) C T d = refl
    plan_kept (n.Nothing k) C T d = refl
    plan_kept (n.Arith k op x y) C T d = refl
    plan_kept (n.Compare k op x y) C T d = refl
    plan_kept (n.Not k x) C T d = refl
    plan_kept (n.Pair k x y) C T d = refl
    plan_kept (n.Cons k x y) C T d = refl
    plan_kept (n.Node k x y z) C T d = refl
    plan_kept (n.Just k x) C T d = refl
    plan_kept (n.Call k f xs) C T d = λ i. Calls k (record {
      function = f;
      own = (called P group bs budget C f xs T d).own;
      usable = usable_kept d f 0 bs cs h i;
      args = size_of (types C) d;
      result = size_of (T ∷ []) d;
      args_from = (called P group bs budget C f xs T d).args_from;
      result_from = (called P group bs budget C f xs T d).result_from;
    })
    plan_kept (n.Let k x A a b) C T d = λ i. Lets k
        (map (let_part a C A d) (tuples (others a C) d)) (lower (λ e. plan_kept a (inners a C) A e i) d)
        (size_of (types (others a C ++ (x, A) ∷ [])) d) (plan_kept b (others a C ++ (x, A) ∷ []) T d i)
    plan_kept (n.Split k x y z a) C T d = ap (Moves k (opening_step C x (y ∷ z ∷ []) d)) (plan_kept a (opened x (y ∷ z ∷ []) parts_of C) T d)
    plan_kept (n.If k x a b) C T d = λ i. Forks k (leaving_step C x d) (plan_kept a (without x C) T d i) (leaving_step C x d) (plan_kept b (without x C) T d i)
    plan_kept (n.CaseList k x a y z b) C T d = λ i.
        Forks k (leaving_step C x d) (plan_kept a (without x C) T d i) (opening_step C x (y ∷ z ∷ []) d) (plan_kept b (opened x (y ∷ z ∷ []) parts_of C) T d i)
    plan_kept (n.CaseTree k x a e y z b) C T d = λ i.
        Forks k (leaving_step C x d) (plan_kept a (without x C) T d i) (opening_step C x (e ∷ y ∷ z ∷ []) d) (plan_kept b (opened x (e ∷ y ∷ z ∷ []) parts_of C) T d i)
    plan_kept (n.CaseOption k x a y b) C T d = λ i.
        Forks k (leaving_step C x d) (plan_kept a (without x C) T d i) (opening_step C x (y ∷ []) d) (plan_kept b (opened x (y ∷ []) parts_of C) T d i)
    plan_kept (n.Tick k j a) C T d = ap (Pays k j) (plan_kept a C T d)
    plan_kept (n.Share k x y z a) C T d =
        ap (Shares k (size_of (types (opened x (y ∷ z ∷ []) copies_of C)) d) (sharing_step C x d)) (plan_kept a (opened x (y ∷ z ∷ []) copies_of C) T d)
    plan_kept (n.Drop k x a) C T d = ap (Moves k (leaving_step C x d)) (plan_kept a (without x C) T d)

    body_kept : (o : Option NormFun) → body_of P group cs budget o ≡ body_of P group bs budget o
    body_kept None = refl
    body_kept (Some g) = λ i. record { plan = plan_kept g.body g.params g.result budget i; args = size_of (types g.params) budget; result = size_of (g.result ∷ []) budget }

  pub bodies_kept : (d : ℕ) (bs cs : List Block) (task : Task) → BlocksTimes u P m bs cs → bodies_of P d cs task ≡ bodies_of P d bs task
  bodies_kept d bs cs task h = λ i. map (λ f. body_kept (members P task.group) bs cs h (budget_of d task.kind) (slice_get P.funs f) i) (members P task.group)

-- functions that are ready in one setting are so in another of the program, in which what they call is paid for as well
pub ready_kept : (S R : Setting) (mode : Mode) → S.program ≡ R.program → ((f : ℕ) → PaidFor S mode f → PaidFor R mode f) → (fs : List ℕ) → AreReady S mode fs → AreReady R mode fs
ready_kept S R mode same paid [] h = tt
ready_kept S R mode same paid (f ∷ fs) h =
    let one = h.0 in (
      record {
        fun = one.fun;
        there = subst (λ P. slice_get P.funs f ≡ Some one.fun) same one.there;
        uses = subst (λ P. Uses P.funs one.fun.params one.fun.body one.fun.result) same one.uses;
        paid = all (called_in one.fun.body) one.paid;
      },
      h.1,
      ready_kept S R mode same paid fs h.2,
    ) where
      all : (gs : List ℕ) → AllPaid S mode gs → AllPaid R mode gs
      all [] k = tt
      all (g ∷ gs) k = (paid g k.0, all gs k.1)

-- a signature with cost is raised with its block
pub cost_raised : (P : Program) (u : ℕ) (meter : Meter) (bs cs : List Block) → BlocksTimes u P (With meter) bs cs → (f : ℕ) →
    (s : Sig) × (cost_sig P meter bs f ≡ Some s) → (s : Sig) × (cost_sig P meter cs f ≡ Some s)
cost_raised P u meter bs cs h f s = (times_sig u s.0, cost_times u P meter bs cs h f ∙ ap (option_map (times_sig u)) s.1)
