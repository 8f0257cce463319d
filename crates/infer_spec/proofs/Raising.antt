-- What is good stays so where blocks and scales are raised.
use Rattle.std.proofs.Common.{◌≡◌, ◌<◌, ℕ, suc, ◌*◌, ◌^◌, cond, List, [], ◌∷◌, map, slice_get, Bool, true, false, Option, Some, None, refl, sym, ap, ◌∙◌, subst, arith}
use Rattle.std.proofs.Math.Nat.{mul-le-mul_left}
use Rattle.base_poly.specs.Plain.{degrees}
use Rattle.base_poly.specs.Indices.{index_list}
use Rattle.index_shift.specs.Potential.{Annotation, weighed}
use Rattle.normal_spec.specs.Norm.{NormFun}
use Rattle.normal_spec.specs.Context.{types}
use Rattle.cost_free.specs.declared.task.Meter.{Meter}
use Rattle.cost_free.specs.declared.task.Meter.TheVariants.{Ticks, Cells, Work}
use Rattle.cost_free.specs.Task as k
use Rattle.cost_free.specs.Task.{Kind, Free, Task, same_meter}
use Rattle.cost_free.specs.Blocked.{is_for_meter}
use Rattle.annot_types.specs.Program.{Program, members}
use Rattle.annot_types.specs.Certificate as c
use Rattle.annot_types.specs.Certificate.{Entries, annotation, Sig, Hint, Let, Share, Call, Body, Solved, Calls, Block}
use Rattle.annot_types.specs.Signature.{sig_in, free_budget}
use Rattle.annot_types.specs.Rules.{Mode}
use Rattle.annot_types.specs.Holds.{times, times_sig, times_hint, times_body, times_block, raised, mode_of, budget_of, blocks_before, setting}
use Rattle.annot_types.specs.Holds.{FunctionsHold, ReachesTarget, Holds}
use Rattle.annot_types.specs.Least.{solving, args_weight, group_weight, weight}
use Rattle.annot_types.proofs.Linear.{mul, annotation_mul}
use Rattle.annot_types.proofs.Times.{BlocksTimes, SettingTimes}
use Rattle.annot_types.proofs.Raised.{times_product, option_once, on, off, same_meters, same_self, all_free_kept, all_other_kept, body_once}
use Rattle.annot_types.proofs.Multiples.{holds_times, reaches_same, raising_keeps}
use Rattle.infer_spec.specs.States.{raised_scales, scale_at}
use Rattle.infer_spec.specs.Good.{IsRight, IsGood}

-- Raised twice

map_product : {X : Type 0} (f g h : X → X) → ((x : X) → h x ≡ f (g x)) → (xs : List X) → map h xs ≡ map f (map g xs)
map_product f g h e [] = refl
map_product f g h e (x ∷ xs) = λ i. e x i ∷ map_product f g h e xs i

sig_product : (u t : ℕ) (s : Sig) → times_sig (u * t) s ≡ times_sig u (times_sig t s)
sig_product u t s = λ i. record { args = times_product u t s.args i; result = times_product u t s.result i }

hint_product : (u t : ℕ) (h : Hint) → times_hint (u * t) h ≡ times_hint u (times_hint t h)
hint_product u t (Let rs) = ap Let (map_product (times u) (times t) (times (u * t)) (times_product u t) rs)
hint_product u t (Share p) = ap Share (times_product u t p)
hint_product u t (Call ms) = ap Call (times_product u t ms)

body_product : (u t : ℕ) (body : Body) → times_body (u * t) body ≡ times_body u (times_body t body)
body_product u t (Solved sigs hints) = λ i. Solved
    (map_product (times_sig u) (times_sig t) (times_sig (u * t)) (sig_product u t) sigs i)
    (map_product (map (times_hint u)) (map (times_hint t)) (map (times_hint (u * t)))
    (map_product (times_hint u) (times_hint t) (times_hint (u * t)) (hint_product u t)) hints i)
body_product u t (c.Refuted farkas) = refl
body_product u t (Calls fun) = refl

block_product : (meter : Meter) (u t : ℕ) (block : Block) (is : Bool) → is_for_meter meter block.task.kind ≡ is → raised meter (u * t) block ≡ raised meter u (raised meter t block)
block_product meter u t block true e =
    on meter (u * t) block e ∙ (λ i. record { task = block.task; body = body_product u t block.body i })
    ∙ sym (ap (raised meter u) (on meter t block e) ∙ on meter u (times_block t block) e)
block_product meter u t block false e = off meter (u * t) block e ∙ sym (ap (raised meter u) (off meter t block e) ∙ off meter u block e)

pub all_product : (meter : Meter) (u t : ℕ) (bs : List Block) → map (raised meter (u * t)) bs ≡ map (raised meter u) (map (raised meter t) bs)
all_product meter u t bs = map_product (raised meter u) (raised meter t) (raised meter (u * t)) (λ b. block_product meter u t b (is_for_meter meter b.task.kind) refl) bs

-- Over the same blocks and at the same prices

moved : (P : Program) (d : ℕ) (bs cs : List Block) (scale price t u : ℕ) (task : Task) (sigs : List Sig) (hints : List (List Hint)) →
    blocks_before task.kind t bs ≡ blocks_before task.kind u cs → scale * t ≡ price * u → 0 < u →
    (ReachesTarget P d (solving task sigs hints) t task.kind → ReachesTarget P d (solving task sigs hints) u task.kind) →
    Holds P d bs scale (solving task sigs hints) t → Holds P d cs price (solving task sigs hints) u
moved P d bs cs scale price t u task sigs hints same prices positive reach h = record {
  positive = positive;
  solved = tt;
  functions = subst (λ es. FunctionsHold (record { program = P; earlier = es; group = members P task.group; sigs = sigs; budget = budget_of d task.kind; scale = price * u }) (mode_of task.kind) (members P task.group) sigs hints) same
      (subst (λ n. FunctionsHold (record { program = P; earlier = blocks_before task.kind t bs; group = members P task.group; sigs = sigs; budget = budget_of d task.kind; scale = n }) (mode_of task.kind) (members P task.group) sigs hints) prices
      h.functions);
  reaches = reach h.reaches;
}

pub positive_product : (r u : ℕ) → 0 < r → 0 < u → 0 < r * u
positive_product r u pr pu = let one = mul-le-mul_left r pu in let z : r * 1 ≡ r = grind arith in omega (arith, one, z, pr)

-- What holds at the raised scale with u holds at the scale before with r u,
pub same_down : (P : Program) (d : ℕ) (meter : Meter) (r : ℕ) (bs : List Block) (group scale u : ℕ) (sigs : List Sig) (hints : List (List Hint)) → 0 < r →
    Holds P d (map (raised meter r) bs) (r * scale) (solving (record { group = group; kind = k.With meter }) sigs hints) u →
    Holds P d bs scale (solving (record { group = group; kind = k.With meter }) sigs hints) (r * u)
same_down P d meter r bs group scale u sigs hints pr h =
    let swap : u * r ≡ r * u = grind arith in
    moved P d (map (raised meter r) bs) bs (r * scale) scale u (r * u) (record { group = group; kind = k.With meter }) sigs hints
    (sym (all_product meter u r bs) ∙ (λ i. map (raised meter (swap i)) bs)) (grind arith) (positive_product r u pr h.positive) (λ reach. tt) h

-- and what holds before with r holds at the raised scale with 1.
pub new_up : (P : Program) (d : ℕ) (meter : Meter) (r : ℕ) (bs : List Block) (group scale : ℕ) (sigs : List Sig) (hints : List (List Hint)) →
    Holds P d bs scale (solving (record { group = group; kind = k.With meter }) sigs hints) r →
    Holds P d (map (raised meter r) bs) (r * scale) (solving (record { group = group; kind = k.With meter }) sigs hints) 1
new_up P d meter r bs group scale sigs hints h =
    let once : r ≡ 1 * r = grind arith in
    moved P d bs (map (raised meter r) bs) scale (r * scale) r 1 (record { group = group; kind = k.With meter }) sigs hints
    ((λ i. map (raised meter (once i)) bs) ∙ all_product meter 1 r bs) (grind arith) (omega arith) (λ reach. tt) h

-- Blocks of another kind

back : (P : Program) (m : Mode) (bs cs : List Block) → BlocksTimes 1 P m bs cs → BlocksTimes 1 P m cs bs
back P m [] [] h = tt
back P m [] (c ∷ cs) h = absurd h
back P m (b ∷ bs) [] h = absurd h
back P m (b ∷ bs) (e ∷ cs) h = (
  record {
    task = sym h.0.task;
    free = λ budget free f. sym (h.0.free budget (ap (λ task. free_budget task.kind) (sym h.0.task) ∙ free) f);
    cost = λ meter q of f. sym (option_once (sig_in P e f) ∙ h.0.cost meter q (ap (λ task. is_for_meter meter task.kind) (sym h.0.task) ∙ of) f ∙ option_once (sig_in P b f));
  },
  back P m bs cs h.1,
)

once : (n : ℕ) → n ≡ 1 * n
once n = omega arith

other_setting : (P : Program) (d : ℕ) (bs : List Block) (scale r group : ℕ) (kind : Kind) (meter : Meter) (sigs : List Sig) (hints : List (List Hint)) (t : ℕ) →
    is_for_meter meter kind ≡ false →
    SettingTimes 1 (mode_of kind) (setting P d (map (raised meter r) bs) scale (solving (record { group = group; kind = kind }) sigs hints) t) (blocks_before kind t bs) (scale * t)
other_setting P d bs scale r group (Free budget f number) meter sigs hints t e =
    record { blocks = back P _ bs (map (raised meter r) bs) (all_free_kept r P meter bs); prices = λ nodes ticks cells. refl; refunds = refl }
other_setting P d bs scale r group (k.With Ticks) meter sigs hints t e =
    record { blocks = back P _ (map (raised Ticks t) bs) _ (all_other_kept r t P meter Ticks e bs); prices = λ nodes ticks cells. once (ticks * (scale * t)); refunds = refl }
other_setting P d bs scale r group (k.With Cells) meter sigs hints t e =
    record { blocks = back P _ (map (raised Cells t) bs) _ (all_other_kept r t P meter Cells e bs); prices = λ nodes ticks cells. once (cells * (scale * t)); refunds = refl }
other_setting P d bs scale r group (k.With Work) meter sigs hints t e =
    record { blocks = back P _ (map (raised Work t) bs) _ (all_other_kept r t P meter Work e bs); prices = λ nodes ticks cells. once (nodes * (scale * t)); refunds = once (scale * t) }

pub other_down : (P : Program) (d : ℕ) (meter : Meter) (r : ℕ) (bs : List Block) (group : ℕ) (kind : Kind) (scale u : ℕ) (sigs : List Sig) (hints : List (List Hint)) →
    is_for_meter meter kind ≡ false →
    Holds P d (map (raised meter r) bs) scale (solving (record { group = group; kind = kind }) sigs hints) u →
    Holds P d bs scale (solving (record { group = group; kind = kind }) sigs hints) u
other_down P d meter r bs group kind scale u sigs hints e h =
    let task : Task = record { group = group; kind = kind } in
    subst (λ body. Holds P d bs scale (record { task = task; body = body }) u) (body_once (Solved sigs hints))
    (holds_times 1 P d (map (raised meter r) bs) bs scale scale task sigs hints u u (other_setting P d bs scale r group kind meter sigs hints u e) h.positive
    (reaches_same 1 u P d task sigs hints kind) h)

-- The weight is r times as great.

weighed_times : {X : Type 0} (f : X → ℕ) (xs : List X) (r : ℕ) (q : Annotation) → weighed f xs (mul r q) ≡ r * weighed f xs q
weighed_times f [] r q = grind arith
weighed_times f (x ∷ xs) r q = let rest = weighed_times f xs r (λ k. q (suc k)) in grind (arith, rest)

args_times : (budget r : ℕ) (s : Sig) (o : Option NormFun) → args_weight o budget (times_sig r s) ≡ r * args_weight o budget s
args_times budget r s None = grind arith
args_times budget r s (Some g) =
    ap (weighed (λ t. 10 ^ degrees t) (index_list (types g.params) budget)) (annotation_mul r s.args)
    ∙ weighed_times (λ t. 10 ^ degrees t) (index_list (types g.params) budget) r (annotation s.args)

group_times : (P : Program) (budget r : ℕ) (fs : List ℕ) (ss : List Sig) → group_weight P budget fs (map (times_sig r) ss) ≡ r * group_weight P budget fs ss
group_times P budget r [] ss = grind arith
group_times P budget r (f ∷ fs) [] = grind arith
group_times P budget r (f ∷ fs) (s ∷ ss) =
    let rest = group_times P budget r fs ss in
    let one = args_times budget r s (slice_get P.funs f) in grind (arith, rest, one)

-- One block

-- a raised block has its task, and this body
pub raised_is : (meter : Meter) (r : ℕ) (block : Block) → raised meter r block ≡ record { task = block.task; body = cond (is_for_meter meter block.task.kind) (times_body r block.body) block.body }
raised_is meter r block = by (is_for_meter meter block.task.kind)
  where
    by : (is : Bool) → cond is (times_block r block) block ≡ record { task = block.task; body = cond is (times_body r block.body) block.body }
    by true = refl
    by false = refl

module _ (P : Program) (d : ℕ) (meter : Meter) (r : ℕ) (positive : 0 < r) (bs : List Block) where
  up : (task : Task) (scale t : ℕ) (sigs : List Sig) (hints : List (List Hint)) (is : Bool) → is_for_meter meter task.kind ≡ is →
      Holds P d bs scale (solving task sigs hints) t →
      Holds P d (map (raised meter r) bs) (cond is (r * scale) scale) (record { task = task; body = cond is (times_body r (Solved sigs hints)) (Solved sigs hints) }) t
  up task scale t sigs hints is e h =
      subst (λ b. Holds P d (map (raised meter r) bs) (cond b (r * scale) scale) (record { task = task; body = cond b (times_body r (Solved sigs hints)) (Solved sigs hints) }) t) e
      (subst (λ b. Holds P d (map (raised meter r) bs) (cond (is_for_meter meter task.kind) (r * scale) scale) b t) (raised_is meter r (solving task sigs hints))
      (raising_keeps P d bs scale (solving task sigs hints) t meter r positive h))

  -- of another kind
  apart : (group : ℕ) (kind : Kind) (scale : ℕ) (body : Body) → is_for_meter meter kind ≡ false →
      IsRight P d bs scale (record { group = group; kind = kind }) body → IsRight P d (map (raised meter r) bs) scale (record { group = group; kind = kind }) body
  apart group kind scale (Solved sigs hints) e h = record {
    least = record {
      t = h.least.t;
      holds = up (record { group = group; kind = kind }) scale h.least.t sigs hints false e h.least.holds;
      least = λ u ss hss g. h.least.least u ss hss (other_down P d meter r bs group kind scale u ss hss e g);
    };
    one = h.one;
  }
  apart group kind scale (c.Refuted farkas) e h = λ u ss hss g. h u ss hss (other_down P d meter r bs group kind scale u ss hss e g)
  apart group kind scale (Calls fun) e h = tt

  -- of the meter
  own : (group scale : ℕ) (body : Body) → IsRight P d bs scale (record { group = group; kind = k.With meter }) body →
      IsRight P d (map (raised meter r) bs) (r * scale) (record { group = group; kind = k.With meter }) (times_body r body)
  own group scale (Solved sigs hints) h =
      let task : Task = record { group = group; kind = k.With meter } in
      record {
        least = record {
          t = h.least.t;
          holds = up task scale h.least.t sigs hints true (same_self meter) h.least.holds;
          least = λ u ss hss g.
              let low = h.least.least (r * u) ss hss (same_down P d meter r bs group scale u ss hss positive g) in
              let w : weight P d (solving task (map (times_sig r) sigs) (map (map (times_hint r)) hints)) ≡ r * weight P d (solving task sigs hints) =
              group_times P d r (members P group) sigs in
              let v = ap (λ n. u * n) w in
              let regroup : u * (r * weight P d (solving task sigs hints)) ≡ (r * u) * weight P d (solving task sigs hints) = grind arith in
              omega (arith, low, v, regroup);
        };
        one = h.one;
      }
  own group scale (c.Refuted farkas) h = λ u ss hss g. h (r * u) ss hss (same_down P d meter r bs group scale u ss hss positive g)
  own group scale (Calls fun) h = tt

  pub good_raised : (scales : Meter → ℕ) (block : Block) → IsGood P d scales bs block → IsGood P d (raised_scales (k.With meter) r scales) (map (raised meter r) bs) (raised meter r block)
  good_raised scales block h = subst (IsGood P d (raised_scales (k.With meter) r scales) (map (raised meter r) bs)) (sym (raised_is meter r block)) (of_kind block.task.group block.task.kind block.body h)
    where
      of_kind : (group : ℕ) (kind : Kind) (body : Body) → IsRight P d bs (scale_at scales kind) (record { group = group; kind = kind }) body →
          IsRight P d (map (raised meter r) bs) (scale_at (raised_scales (k.With meter) r scales) kind) (record { group = group; kind = kind }) (cond (is_for_meter meter kind) (times_body r body) body)
      of_kind group (Free budget f number) body h = apart group (Free budget f number) 1 body refl h
      of_kind group (k.With other) body h = by (same_meter meter other) refl
        where
          by : (is : Bool) → same_meter meter other ≡ is →
              IsRight P d (map (raised meter r) bs) (cond (same_meter meter other) (r * scales other) (scales other)) (record { group = group; kind = k.With other }) (cond (same_meter meter other) (times_body r body) body)
          by false e = subst (λ b. IsRight P d (map (raised meter r) bs) (cond b (r * scales other) (scales other)) (record { group = group; kind = k.With other }) (cond b (times_body r body) body)) (sym e)
              (apart group (k.With other) (scales other) body e h)
          by true e = subst (λ b. IsRight P d (map (raised meter r) bs) (cond b (r * scales other) (scales other)) (record { group = group; kind = k.With other }) (cond b (times_body r body) body)) (sym e)
              (subst (λ m. IsRight P d (map (raised meter r) bs) (r * scales m) (record { group = group; kind = k.With m }) (times_body r body)) (same_meters meter other e)
              (own group (scales meter) body (subst (λ m. IsRight P d bs (scales m) (record { group = group; kind = k.With m }) body) (sym (same_meters meter other e)) h)))
