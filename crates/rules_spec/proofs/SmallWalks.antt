-- Walks over small numbers have small totals.
use Rattle.std.proofs.Common.{◌≡◌, subst, ℕ, zero, suc, ◌+◌, ◌*◌, ◌≤◌, List, [], ◌∷◌, ◌++◌, length, slice_index_or, Option, None, Some, arith}
use Rattle.cost_free.specs.declared.task.Meter.{Meter}
use Rattle.cost_free.specs.declared.task.Meter.TheVariants.{Ticks, Cells, Work}
use Rattle.annot_types.specs.Rules.{Mode, With, Own, Past}
use Rattle.rules_spec.specs.Numbers.{Numbers, Signature, Known, Hint, Results, Copies, Multiples, Condition, Walked}
use Rattle.rules_spec.specs.Kinds.{Amount, amounts}
use Rattle.rules_spec.specs.Plan as p
use Rattle.rules_spec.specs.Plan.{Plan, Plans, Part, Called}
use Rattle.rules_spec.specs.Tasks.{Body, known_by, of_body, of_bodies}
use Rattle.rules_spec.specs.Walk.{Walk, walk, walks, each, still, mode_at, begun, behind, numbered, against, at, at_zero, moved, all_moved, joined, nothing, charge, copies_of, results_of, multiples_of, later, missing, unpaid, sums, call_pairs}
use Rattle.rules_spec.specs.Growth.{span, spans, join_spans, each_growth, growth, growths}
use Rattle.rules_spec.specs.Small.{Small, AllSmall, MultiplesSmall, HintsSmall, AllHintsSmall, TotalsSmall, GrowthsWithin, TotalsStaySmall}
use Rattle.rules_spec.proofs.SmallMaps.{at_most, small_more, totals_more, totals_both, at_small, items_small, zero_small, nothing_small, moved_small, all_moved_small, joined_small, numbered_small, pairs_both, against_small, PairsSmall}
use Rattle.rules_spec.proofs.SmallCalls.{KnownSmall, group_small, takes, sums_small}

-- what the next hint tells
copies_small : (n : ℕ) (hs : List (Hint Amount)) → HintsSmall n hs → Small n (copies_of hs)
copies_small n [] s = tt
copies_small n (Results rs ∷ hs) s = tt
copies_small n (Copies q ∷ hs) s = s.0
copies_small n (Multiples ms ∷ hs) s = tt

results_small : (n : ℕ) (hs : List (Hint Amount)) → HintsSmall n hs → AllSmall n (results_of hs)
results_small n [] s = tt
results_small n (Results rs ∷ hs) s = s.0
results_small n (Copies q ∷ hs) s = tt
results_small n (Multiples ms ∷ hs) s = tt

multiples_few : (n : ℕ) (hs : List (Hint Amount)) → HintsSmall n hs → MultiplesSmall n (multiples_of hs) × (length (multiples_of hs) ≤ n)
multiples_few n [] s = (tt, omega arith)
multiples_few n (Results rs ∷ hs) s = (tt, omega arith)
multiples_few n (Copies q ∷ hs) s = (tt, omega arith)
multiples_few n (Multiples ms ∷ hs) s = s.0

later_small : (n : ℕ) (hs : List (Hint Amount)) → HintsSmall n hs → HintsSmall n (later hs)
later_small n [] s = tt
later_small n (h ∷ hs) s = s.1

charge_small : (scale : ℕ) (mode : Mode) (meter : Meter) (m : ℕ) → charge scale mode meter m ≤ m * scale
charge_small scale (With Ticks) Ticks m = omega arith
charge_small scale (With Ticks) Cells m = omega arith
charge_small scale (With Ticks) Work m = omega arith
charge_small scale (With Cells) Ticks m = omega arith
charge_small scale (With Cells) Cells m = omega arith
charge_small scale (With Cells) Work m = omega arith
charge_small scale (With Work) Ticks m = omega arith
charge_small scale (With Work) Cells m = omega arith
charge_small scale (With Work) Work m = omega arith
charge_small scale Own meter m = omega arith
charge_small scale Past meter m = omega arith

-- a walk whose totals are at most t leaves hints that are small
record Fine (n t : ℕ) (x : Walked Amount) : Type 0 where
  totals : TotalsSmall t x.found
  left : HintsSmall n x.left

fine_more : (n t u : ℕ) (x : Walked Amount) → t ≤ u → Fine n t x → Fine n u x
fine_more n t u x l f = record { totals = totals_more t u x.found l f.totals; left = f.left }

behind_fine : (n t : ℕ) (cs : List (Condition Amount)) (x : Walked Amount) → TotalsSmall t cs → Fine n t x → Fine n t (behind cs x)
behind_fine n t cs x h f = record { totals = totals_both t cs x.found h f.totals; left = f.left }

module _ (n : ℕ) (G : Known Amount) (one : 1 ≤ n) (known : KnownSmall n G) where
  abbrev A : Numbers Amount
  A = amounts 1

  abbrev w : ℕ
  w = 1 + n * n

  -- a walk from what is at most b has totals of at most g times b
  abbrev Grows : Walk Amount → ℕ → Type 0
  Grows W g = (mode : Mode) (path : List ℕ) (q r : List Amount) (hs : List (Hint Amount)) (b : ℕ) →
      n ≤ b → Small b q → Small n r → HintsSmall n hs → Fine n (g * b) (W mode path q r hs)

  -- the price of nodes, or another one, is at most so many times b
  price_small : (b m : ℕ) → n ≤ b → m * G.scale ≤ m * b
  price_small b m l = at_most (omega arith) (omega (arith, l, known.scale))

  begun_fine : (m : ℕ) (mode : Mode) (path : List ℕ) (q : List Amount) (go : ℕ → List Amount → Walked Amount) (b t : ℕ) → n ≤ b → Small b q → (1 + m) * b ≤ t →
      ((i : ℕ) (q' : List Amount) → Small ((1 + m) * b) q' → Fine n t (go i q')) → Fine n t (begun A G m mode path q go)
  begun_fine zero (With Ticks) path q go b t l s h f = f 0 q (small_more b _ q (omega arith) s)
  begun_fine zero (With Cells) path q go b t l s h f = f 0 q (small_more b _ q (omega arith) s)
  begun_fine zero (With Work) path q go b t l s h f = f 0 q (small_more b _ q (omega arith) s)
  begun_fine zero Own path q go b t l s h f = f 0 q (small_more b _ q (omega arith) s)
  begun_fine zero Past path q go b t l s h f = f 0 q (small_more b _ q (omega arith) s)
  begun_fine (suc m) (With Ticks) path q go b t l s h f = let e : b ≤ (1 + suc m) * b = grind arith in f 0 q (small_more b _ q e s)
  begun_fine (suc m) (With Cells) path q go b t l s h f = let e : b ≤ (1 + suc m) * b = grind arith in f 0 q (small_more b _ q e s)
  begun_fine (suc m) Own path q go b t l s h f = let e : b ≤ (1 + suc m) * b = grind arith in f 0 q (small_more b _ q e s)
  begun_fine (suc m) Past path q go b t l s h f = let e : b ≤ (1 + suc m) * b = grind arith in f 0 q (small_more b _ q e s)
  begun_fine (suc m) (With Work) path q go b t l s h f =
      let first = at_small b q 0 s in let price = price_small b (suc m) l in
      let both : b + suc m * b ≡ (1 + suc m) * b = grind arith in
      behind_fine n t (numbered path 0 ((at A q 0, A.number (suc m * G.scale)) ∷ [])) _ (omega (arith, first, price, both, h), tt)
      (f 1 _ (small_more (b + suc m * G.scale) ((1 + suc m) * b) _ (omega (arith, price, both)) (zero_small b (suc m * G.scale) (A.less (suc m * G.scale)) q (λ x. omega arith) s)))

  one_times : (g h : ℕ) → 1 ≤ g → 1 ≤ h → 1 ≤ g * h
  one_times g h k l = let both : 1 * 1 ≤ g * h = at_most k l in omega (arith, both)

  grows_one : (e : Plan) → 1 ≤ growth w e
  grows_one (p.Ends m c steps) = omega arith
  grows_one (p.Pays m t e) = one_times (growth w e) (1 + m + t) (grows_one e) (omega arith)
  grows_one (p.Moves m st e) = one_times (growth w e * (1 + span st.entries)) (1 + m) (one_times (growth w e) (1 + span st.entries) (grows_one e) (omega arith)) (omega arith)
  grows_one (p.Forks m st a other b) =
      let x = one_times (growth w a) (1 + span st.entries) (grows_one a) (omega arith) in
      one_times (growth w a * (1 + span st.entries) + growth w b * (1 + span other.entries)) (1 + m) (omega (arith, x)) (omega arith)
  grows_one (p.Shares m count st e) = omega arith
  grows_one (p.Calls m c) = omega arith
  grows_one (p.Lets m parts firsts count e) =
      let x = one_times (growth w e) (1 + join_spans parts) (grows_one e) (omega arith) in
      omega (arith, x)

  still_fine : Grows still 0
  still_fine mode path q r hs b l s t h = record { totals = tt; left = h }

  ends_fine : (m c : ℕ) (steps : List p.Step) → Grows (walk A G (p.Ends m c steps)) (growth w (p.Ends m c steps))
  ends_fine m c steps mode path q r hs b l s t h =
      let price = price_small b c l in
      let maps : spans steps * n ≤ spans steps * b = at_most (omega arith) l in
      let all : (1 + m) * b + (spans steps * b + c * b) ≡ (1 + m + (c + spans steps)) * b = grind arith in
      let k = charge G.scale mode Cells c in let right = at_zero (A.plus (A.number k)) (all_moved A steps r) in
      let right_small : Small (spans steps * n + c * b) right =
      small_more (spans steps * n + k) (spans steps * n + c * b) right (omega (arith, price, charge_small G.scale mode Cells c))
      (zero_small (spans steps * n) k (A.plus (A.number k)) (all_moved A steps r) (λ x. omega arith) (all_moved_small n steps r t)) in
      begun_fine m mode path q _ b (growth w (p.Ends m c steps) * b) l s (omega (arith, all)) (λ i q' s'. record {
        totals = numbered_small _ path i (against A q' right) (against_small ((1 + m) * b) (spans steps * n + c * b) _ q' right (omega (arith, maps, all)) s' right_small);
        left = h;
      })

  unpaid_small : (b : ℕ) (s : Option Signature) → 1 ≤ b → PairsSmall b (unpaid A G s)
  unpaid_small b None h = (omega (arith, h), tt)
  unpaid_small b (Some s) h = tt

  missing_small : (b : ℕ) (mode : Mode) (c : Called) (own : Option ℕ) → 1 ≤ b → PairsSmall b (missing A G mode c own)
  missing_small b (With meter) c None h = unpaid_small b (G.cost meter c.function) h
  missing_small b (With meter) c (Some k) h = tt
  missing_small b Own c own h = tt
  missing_small b Past c own h = tt

  calls_fine : (m : ℕ) (c : Called) → Grows (walk A G (p.Calls m c)) (growth w (p.Calls m c))
  calls_fine m c mode path q r hs b l s t h =
      let ms = multiples_few n hs h in
      let both = sums_small n G known c mode (multiples_of hs) ms.0 ms.1 in
      let less : (1 + takes c * w) * n ≤ (1 + takes c * w) * b = at_most (omega arith) l in
      let all : (1 + m) * b + ((1 + takes c * w) * b + b) ≡ (1 + m + (2 + takes c * w)) * b = grind arith in
      let low : b ≤ (1 + m) * b = grind arith in
      let sides = sums A G mode c (multiples_of hs) in
      let high : 1 ≤ growth w (p.Calls m c) * b = omega (arith, one, l, low, all) in
      begun_fine m mode path q _ b (growth w (p.Calls m c) * b) l s (omega (arith, all)) (λ i q' s'. record {
        totals = numbered_small _ path i (missing A G mode c c.own ++ call_pairs A G q' r sides)
            (pairs_both _ (missing A G mode c c.own) (call_pairs A G q' r sides) (missing_small _ mode c c.own high)
            (pairs_both _ (against A q' sides.args) (against A sides.result r)
            (against_small ((1 + m) * b) ((1 + takes c * w) * n) _ q' sides.args (omega (arith, less, all)) s' both.0)
            (against_small ((1 + takes c * w) * n) n _ sides.result r (omega (arith, less, l, all)) both.1 t)));
        left = later_small n hs h;
      })

  -- the bound form of a Let for each tuple
  each_fine : (ws : List (Walk Amount)) (gs : List ℕ) → ((d : ℕ) → Grows (slice_index_or ws d still) (slice_index_or gs d 0)) →
      (j : ℕ) (parts : List Part) (rs : List (List Amount)) (q : List Amount) (mode : Mode) (path : List ℕ) (hs : List (Hint Amount)) (b : ℕ) →
      n ≤ b → Small b q → AllSmall n rs → HintsSmall n hs → Fine n (each_growth gs parts * b) (each A G ws j parts rs q mode path hs)
  each_fine ws gs f j [] rs q mode path hs b l s t h = record { totals = tt; left = h }
  each_fine ws gs f j (part ∷ parts) rs q mode path hs b l s t h =
      let g = slice_index_or gs part.degree 0 in let x = span part.there.entries in let rest = each_growth gs parts in
      let all : g * ((1 + x) * b) + rest * b ≡ (g * (1 + x) + rest) * b = grind arith in
      let split : b + x * b ≡ (1 + x) * b = grind arith in
      let first = f part.degree (mode_at j mode) (path ++ j ∷ []) _ (slice_index_or rs j []) hs ((1 + x) * b) (omega (arith, l, split))
      (small_more (x * b) ((1 + x) * b) _ (omega (arith, split)) (moved_small b part.there q s)) (items_small n rs j t) h in
      let others = each_fine ws gs f (suc j) parts rs q mode path _ b l s t first.left in
      let heard = (slice_index_or ws part.degree still (mode_at j mode) (path ++ j ∷ []) (moved A part.there q) (slice_index_or rs j []) hs).found in
      behind_fine n _ heard _ (totals_more (g * ((1 + x) * b)) _ heard (omega (arith, all)) first.totals) (fine_more n (rest * b) _ _ (omega (arith, all)) others)

  mutual
    walk_fine : (e : Plan) → Grows (walk A G e) (growth w e)
    walk_fine (p.Ends m c steps) mode path q r hs b l s t h = ends_fine m c steps mode path q r hs b l s t h
    walk_fine (p.Pays m ticks e) mode path q r hs b l s t h =
        let g = growth w e in let up = 1 + m + ticks in
        let same : g * (up * b) ≡ g * up * b = grind arith in
        let low : 1 * (up * b) ≤ g * (up * b) = at_most (grows_one e) (omega arith) in
        let parts : (1 + m) * b + ticks * b ≡ up * b = grind arith in
        let price = price_small b ticks l in let k_small = charge_small G.scale mode Ticks ticks in
        let k = charge G.scale mode Ticks ticks in
        let up_low : b ≤ up * b = grind arith in
        begun_fine m mode path q _ b (g * up * b) l s (omega (arith, same, low, parts)) (λ i q' s'.
        let first = at_small ((1 + m) * b) q' 0 s' in
        let less = small_more ((1 + m) * b + k) (up * b) (at_zero (A.less k) q') (omega (arith, price, k_small, parts)) (zero_small ((1 + m) * b) k (A.less k) q' (λ x. omega arith) s') in
        behind_fine n (g * up * b) (numbered path i ((at A q' 0, A.number k) ∷ [])) _ (omega (arith, first, price, k_small, same, low, parts), tt)
        (subst (λ z. Fine n z (walk A G e mode (path ++ 0 ∷ []) (at_zero (A.less k) q') r hs)) same (walk_fine e mode (path ++ 0 ∷ []) (at_zero (A.less k) q') r hs (up * b) (omega (arith, l, up_low)) less t h)))
    walk_fine (p.Moves m step e) mode path q r hs b l s t h =
        let g = growth w e in let x = span step.entries in
        let same : g * ((1 + x) * ((1 + m) * b)) ≡ g * (1 + x) * (1 + m) * b = grind arith in
        let low : 1 * ((1 + x) * ((1 + m) * b)) ≤ g * ((1 + x) * ((1 + m) * b)) = at_most (grows_one e) (omega arith) in
        let split : (1 + m) * b + x * ((1 + m) * b) ≡ (1 + x) * ((1 + m) * b) = grind arith in
        let up : b ≤ (1 + m) * b = grind arith in
        begun_fine m mode path q _ b (g * (1 + x) * (1 + m) * b) l s (omega (arith, same, low, split)) (λ i q' s'.
        subst (λ z. Fine n z (walk A G e mode (path ++ 0 ∷ []) (moved A step q') r hs)) same (walk_fine e mode (path ++ 0 ∷ []) (moved A step q') r hs ((1 + x) * ((1 + m) * b)) (omega (arith, l, up, split))
        (small_more (x * ((1 + m) * b)) ((1 + x) * ((1 + m) * b)) _ (omega (arith, split)) (moved_small ((1 + m) * b) step q' s')) t h))
    walk_fine (p.Forks m step a other e) mode path q r hs b l s t h =
        let g = growth w a in let g' = growth w e in let x = span step.entries in let y = span other.entries in let b1 = (1 + m) * b in
        let same : g * ((1 + x) * b1) + g' * ((1 + y) * b1) ≡ (g * (1 + x) + g' * (1 + y)) * (1 + m) * b = grind arith in
        let low : 1 * ((1 + x) * b1) ≤ g * ((1 + x) * b1) = at_most (grows_one a) (omega arith) in
        let split : b1 + x * b1 ≡ (1 + x) * b1 = grind arith in
        let split' : b1 + y * b1 ≡ (1 + y) * b1 = grind arith in
        let up : b ≤ b1 = grind arith in
        begun_fine m mode path q _ b ((g * (1 + x) + g' * (1 + y)) * (1 + m) * b) l s (omega (arith, same, low, split)) (λ i q' s'.
        let heard = walk A G a mode (path ++ 0 ∷ []) (moved A step q') r hs in
        let first = walk_fine a mode (path ++ 0 ∷ []) (moved A step q') r hs ((1 + x) * b1) (omega (arith, l, up, split)) (small_more (x * b1) ((1 + x) * b1) _ (omega (arith, split)) (moved_small b1 step q' s')) t h in
        let second = walk_fine e mode (path ++ 1 ∷ []) (moved A other q') r heard.left ((1 + y) * b1) (omega (arith, l, up, split')) (small_more (y * b1) ((1 + y) * b1) _ (omega (arith, split')) (moved_small b1 other q' s')) t first.left in
        behind_fine n _ heard.found _ (totals_more (g * ((1 + x) * b1)) _ heard.found (omega (arith, same)) first.totals) (fine_more n (g' * ((1 + y) * b1)) _ _ (omega (arith, same)) second))
    walk_fine (p.Shares m count step e) mode path q r hs b l s t h =
        let x = span step.entries in
        let all : (1 + m) * b + (x * b + growth w e * b) ≡ (1 + m + (x + growth w e)) * b = grind arith in
        let less : x * n ≤ x * b = at_most (omega arith) l in
        let told = copies_small n hs h in
        let right = moved A step (copies_of hs) in
        begun_fine m mode path q _ b ((1 + m + (x + growth w e)) * b) l s (omega (arith, all)) (λ i q' s'. behind_fine n _ (numbered path i (against A q' right)) _
        (numbered_small _ path i (against A q' right) (against_small ((1 + m) * b) (x * n) _ q' right (omega (arith, less, all)) s' (moved_small n step _ told)))
        (fine_more n (growth w e * b) _ _ (omega (arith, all)) (walk_fine e mode (path ++ 0 ∷ []) (copies_of hs) r (later hs) b l (small_more n b _ l told) t (later_small n hs h))))
    walk_fine (p.Calls m c) mode path q r hs b l s t h = calls_fine m c mode path q r hs b l s t h
    walk_fine (p.Lets m parts firsts count e) mode path q r hs b l s t h =
        let gs = growths w firsts in let x = each_growth gs parts in let y = join_spans parts in let b1 = (1 + m) * b in
        let all : (1 + x) * b1 + growth w e * ((1 + y) * b) ≡ ((1 + x) * (1 + m) + growth w e * (1 + y)) * b = grind arith in
        let split : b1 + x * b1 ≡ (1 + x) * b1 = grind arith in
        let joins : b + y * b ≡ (1 + y) * b = grind arith in
        let less : y * n ≤ y * b = at_most (omega arith) l in
        let up : b ≤ b1 = grind arith in
        let told = results_small n hs h in
        let next = joined A (nothing A count) 0 parts (results_of hs) in
        let next_small = small_more (0 + y * n) ((1 + y) * b) next (omega (arith, less, joins)) (joined_small 0 n (nothing A count) 0 parts (results_of hs) (nothing_small 0 count) told) in
        begun_fine m mode path q _ b (((1 + x) * (1 + m) + growth w e * (1 + y)) * b) l s (omega (arith, all, split)) (λ i q' s'.
        let heard = each A G (walks A G firsts) 0 parts (results_of hs) q' mode path (later hs) in
        let first = each_fine (walks A G firsts) gs (walks_fine firsts) 0 parts (results_of hs) q' mode path (later hs) b1 (omega (arith, l, up)) s' told (later_small n hs h) in
        let rest = walk_fine e mode (path ++ length parts ∷ []) next r heard.left ((1 + y) * b) (omega (arith, l, joins)) next_small t first.left in
        behind_fine n _ heard.found _ (totals_more (x * b1) _ heard.found (omega (arith, all, split)) first.totals) (fine_more n (growth w e * ((1 + y) * b)) _ _ (omega (arith, all)) rest))

    walks_fine : (es : Plans) (d : ℕ) → Grows (slice_index_or (walks A G es) d still) (slice_index_or (growths w es) d 0)
    walks_fine p.NoPlans d = still_fine
    walks_fine (p.More e es) zero = walk_fine e
    walks_fine (p.More e es) (suc d) = walks_fine es d

pub totals_stay_small : TotalsStaySmall
totals_stay_small n g j group hints one small sides told within = bodies 0 j.bodies hints told within where
  known : KnownSmall n (known_by j group)
  known = record { scale = small.scale; group = sides; free = small.free; cost = small.cost }

  bodies : (k : ℕ) (bs : List Body) (hss : List (List (Hint Amount))) → AllHintsSmall n hss → GrowthsWithin (1 + n * n) g bs → TotalsSmall (g * n) (of_bodies (amounts 1) j group k bs hss)
  bodies k [] hss h f = tt
  bodies k (b ∷ bs) [] h f = tt
  bodies k (b ∷ bs) (hs ∷ hss) h f =
      let s = group_small n group k sides in
      let low : growth (1 + n * n) b.plan * n ≤ g * n = at_most f.0 (omega arith) in
      let body = walk_fine n (known_by j group) one known b.plan j.mode (k ∷ []) _ _ hs n (omega arith) s.0 s.1 h.0 in
      let heard = (of_body (amounts 1) j group k b hs).found in
      totals_both _ heard _ (totals_more _ _ heard low body.totals) (bodies (suc k) bs hss h.1 f.1)
