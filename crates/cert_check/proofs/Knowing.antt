-- A walk over capped amounts hears the same of numbers that are capped before.
use Rattle.std.proofs.Common.{◌≡◌, refl, ap, sym, ◌∙◌, arith}
use Rattle.std.specs.Prelude.{ℕ, zero, suc, ◌+◌, ◌*◌, List, [], ◌∷◌, ◌++◌, length, map, slice_index_or, Option, None, Some}
use Rattle.std.specs.Option.{option_map}
use Rattle.cost_free.specs.declared.task.Meter.{Meter}
use Rattle.cost_free.specs.declared.task.Meter.TheVariants.{Ticks, Cells, Work}
use Rattle.annot_types.specs.Rules.{Mode, With, Own, Past}
use Rattle.rules_spec.specs.Plan as p
use Rattle.rules_spec.specs.Plan.{Plan, Part, Called}
use Rattle.rules_spec.specs.Numbers.{Sides, Known, Signature, Hint, Walked}
use Rattle.rules_spec.specs.Kinds.{Amount}
use Rattle.rules_spec.specs.Capped.{cap, capped}
use Rattle.rules_spec.specs.Walk.{Walk, charge, behind, and_then, still, mode_at, moved, all_moved, joined, nothing, at_zero, at, numbered, numbers, against, only, results_of, copies_of, multiples_of, later, begun, each, walk, walks, used, once, paid, unpaid, missing, refunded, sums, none_taken, taken, free_sides, call_pairs}
use Rattle.rules_spec.proofs.Capping.{cap_times}
use Rattle.annot_types.specs.Program.{Program}
use Rattle.annot_types.specs.Certificate.{Block}
use Rattle.rules_walk.specs.Remembers.{Tables, Remembers, capped_signature, Knows}

-- what is remembered is known
pub knows_of : (P : Program) (d : ℕ) (blocks : List Block) (t : Tables) → Remembers P d blocks t → Knows P d blocks t
knows_of P d blocks t r = record { free = r.free; cost = λ meter f. ap (option_map capped_signature) (r.cost meter f) }

cap_twice : (n : ℕ) → cap (cap n) ≡ cap n
cap_twice n = omega arith

cap_plus : (a x y : ℕ) → cap x ≡ cap y → cap (a + x) ≡ cap (a + y)
cap_plus a x y e = right a x ∙ ap (λ n. cap (a + n)) e ∙ sym (right a y) where
  right : (a x : ℕ) → cap (a + x) ≡ cap (a + cap x)
  right a x = omega arith

number_by : (x y : ℕ) → cap x ≡ cap y → capped.number x ≡ capped.number y
number_by x y e = λ i. record { plus = e i; minus = 0 }

less_by : (x y : ℕ) → cap x ≡ cap y → capped.less x ≡ capped.less y
less_by x y e = λ i a. record { plus = a.plus; minus = cap_plus a.minus x y e i }

charge_by : (scale : ℕ) (mode : Mode) (meter : Meter) (n : ℕ) → cap (charge scale mode meter n) ≡ cap (charge (cap scale) mode meter n)
charge_by scale (With Ticks) Ticks n = cap_times n scale
charge_by scale (With Cells) Cells n = cap_times n scale
charge_by scale (With Work) Work n = cap_times n scale
charge_by scale (With Ticks) Cells n = refl
charge_by scale (With Ticks) Work n = refl
charge_by scale (With Cells) Ticks n = refl
charge_by scale (With Cells) Work n = refl
charge_by scale (With Work) Ticks n = refl
charge_by scale (With Work) Cells n = refl
charge_by scale Own meter n = refl
charge_by scale Past meter n = refl

numbers_by : (ns : List ℕ) → numbers capped ns ≡ numbers capped (map cap ns)
numbers_by [] = refl
numbers_by (n ∷ ns) = λ i. number_by n (cap n) (sym (cap_twice n)) i ∷ numbers_by ns i

-- what is known, with the scale and the numbers of signatures that pay capped
abbrev pub as_heard : Known Amount → Known Amount
as_heard K = record { scale = cap K.scale; budget = K.budget; group = K.group; free = K.free; cost = λ meter f. option_map capped_signature (K.cost meter f) }

module _ (K : Known Amount) where
  abbrev H : Known Amount
  H = as_heard K

  and_then_same : (w w' : Walked Amount) (next next' : List (Hint Amount) → Walked Amount) → w ≡ w' → ((hs : List (Hint Amount)) → next hs ≡ next' hs) → and_then w next ≡ and_then w' next'
  and_then_same w w' next next' e h = ap (λ x. and_then x next) e ∙ ap (behind w'.found) (h w'.left)

  begun_same : (n : ℕ) (mode : Mode) (path : List ℕ) (q : List Amount) (go go' : ℕ → List Amount → Walked Amount) →
      ((i : ℕ) (q : List Amount) → go i q ≡ go' i q) → begun capped K n mode path q go ≡ begun capped H n mode path q go'
  begun_same zero (With Ticks) path q go go' h = h 0 q
  begun_same zero (With Cells) path q go go' h = h 0 q
  begun_same zero (With Work) path q go go' h = h 0 q
  begun_same (suc n) (With Ticks) path q go go' h = h 0 q
  begun_same (suc n) (With Cells) path q go go' h = h 0 q
  begun_same (suc n) (With Work) path q go go' h =
      let e = cap_times (suc n) K.scale in
      (λ i. behind (numbered path 0 ((at capped q 0, number_by (suc n * K.scale) (suc n * cap K.scale) e i) ∷ []))
      (go 1 (at_zero (less_by (suc n * K.scale) (suc n * cap K.scale) e i) q)))
      ∙ ap (behind (numbered path 0 ((at capped q 0, capped.number (suc n * cap K.scale)) ∷ []))) (h 1 (at_zero (capped.less (suc n * cap K.scale)) q))
  begun_same zero Own path q go go' h = h 0 q
  begun_same (suc n) Own path q go go' h = h 0 q
  begun_same zero Past path q go go' h = h 0 q
  begun_same (suc n) Past path q go go' h = h 0 q

  used_same : (c : Called) (ms : List (ℕ × Amount)) (out : Sides Amount) → used capped K c ms out ≡ used capped H c ms out
  used_same c [] out = refl
  used_same c (m ∷ ms) out = let s = K.free m.0 c.function in used_same c ms (taken capped K c s.budget (free_sides capped K s m.1) out)

  paid_same : (c : Called) (o : Option Signature) → paid capped K c o ≡ paid capped H c (option_map capped_signature o)
  paid_same c None = refl
  paid_same c (Some s) = λ i. taken capped K c s.budget (record { args = numbers_by s.args i; result = numbers_by s.result i }) (none_taken capped K c)

  once_same : (mode : Mode) (c : Called) (own : Option ℕ) → once capped K mode c own ≡ once capped H mode c own
  once_same Past c own = refl
  once_same Own c None = refl
  once_same Own c (Some k) = refl
  once_same (With meter) c (Some k) = refl
  once_same (With meter) c None = paid_same c (K.cost meter c.function)

  unpaid_same : (o : Option Signature) → unpaid capped K o ≡ unpaid capped H (option_map capped_signature o)
  unpaid_same None = refl
  unpaid_same (Some s) = refl

  missing_same : (mode : Mode) (c : Called) (own : Option ℕ) → missing capped K mode c own ≡ missing capped H mode c own
  missing_same (With meter) c None = unpaid_same (K.cost meter c.function)
  missing_same (With meter) c (Some k) = refl
  missing_same Own c own = refl
  missing_same Past c own = refl

  refunded_same : (mode : Mode) (s : Sides Amount) → refunded capped K mode s ≡ refunded capped H mode s
  refunded_same (With Ticks) s = refl
  refunded_same (With Cells) s = refl
  refunded_same (With Work) s = λ i. record { args = at_zero (less_by K.scale (cap K.scale) (sym (cap_twice K.scale)) i) s.args; result = s.result }
  refunded_same Own s = refl
  refunded_same Past s = refl

  sums_same : (mode : Mode) (c : Called) (ms : List (ℕ × Amount)) → sums capped K mode c ms ≡ sums capped H mode c ms
  sums_same mode c ms =
      refunded_same mode (used capped K c ms (once capped K mode c c.own))
      ∙ ap (refunded capped H mode) (used_same c ms (once capped K mode c c.own) ∙ ap (used capped H c ms) (once_same mode c c.own))

  abbrev Same : Walk Amount → Walk Amount → Type 0
  Same w v = (mode : Mode) (path : List ℕ) (q r : List Amount) (hs : List (Hint Amount)) → w mode path q r hs ≡ v mode path q r hs

  AllSame : List (Walk Amount) → List (Walk Amount) → Type 0
  AllSame [] [] = Unit {0}
  AllSame (w ∷ ws) (v ∷ vs) = Same w v × AllSame ws vs
  AllSame _ _ = ⊥

  same_at : (ws vs : List (Walk Amount)) → AllSame ws vs → (k : ℕ) → Same (slice_index_or ws k still) (slice_index_or vs k still)
  unfolding AllSame
  same_at [] [] a k = λ mode path q r hs. refl
  same_at [] (v ∷ vs) a k = absurd a
  same_at (w ∷ ws) [] a k = absurd a
  same_at (w ∷ ws) (v ∷ vs) a zero = a.0
  same_at (w ∷ ws) (v ∷ vs) a (suc k) = same_at ws vs a.1 k

  each_same : (ws vs : List (Walk Amount)) → AllSame ws vs → (j : ℕ) (parts : List Part) (rs : List (List Amount)) (q : List Amount) (mode : Mode) →
      (path : List ℕ) (hs : List (Hint Amount)) → each capped K ws j parts rs q mode path hs ≡ each capped H vs j parts rs q mode path hs
  each_same ws vs a j [] rs q mode path hs = refl
  each_same ws vs a j (part ∷ parts) rs q mode path hs = and_then_same _ _
      (λ left. each capped K ws (suc j) parts rs q mode path left) (λ left. each capped H vs (suc j) parts rs q mode path left)
      (same_at ws vs a part.degree (mode_at j mode) (path ++ j ∷ []) (moved capped part.there q) (slice_index_or rs j []) hs)
      (λ left. each_same ws vs a (suc j) parts rs q mode path left)

  mutual
    unfolding AllSame

    pub walk_same : (e : Plan) → Same (walk capped K e) (walk capped H e)
    walk_same (p.Ends n cells steps) mode path q r hs = begun_same n mode path q _ _ (λ i s.
        ap (λ k. only (numbered path i (against capped s (at_zero (capped.plus k) (all_moved capped steps r)))) hs)
        (number_by (charge K.scale mode Cells cells) (charge (cap K.scale) mode Cells cells) (charge_by K.scale mode Cells cells)))
    walk_same (p.Pays n ticks e) mode path q r hs = begun_same n mode path q _ _ (λ i s.
        let k = charge K.scale mode Ticks ticks in
        let k' = charge (cap K.scale) mode Ticks ticks in
        let same = charge_by K.scale mode Ticks ticks in
        (λ i'. behind (numbered path i ((at capped s 0, number_by k k' same i') ∷ [])) (walk capped K e mode (path ++ 0 ∷ []) (at_zero (less_by k k' same i') s) r hs))
        ∙ ap (behind (numbered path i ((at capped s 0, capped.number k') ∷ []))) (walk_same e mode (path ++ 0 ∷ []) (at_zero (capped.less k') s) r hs))
    walk_same (p.Moves n step e) mode path q r hs = begun_same n mode path q _ _ (λ i s. walk_same e mode (path ++ 0 ∷ []) (moved capped step s) r hs)
    walk_same (p.Forks n step a step' b) mode path q r hs = begun_same n mode path q _ _ (λ i s. and_then_same _ _
        (λ left. walk capped K b mode (path ++ 1 ∷ []) (moved capped step' s) r left) (λ left. walk capped H b mode (path ++ 1 ∷ []) (moved capped step' s) r left)
        (walk_same a mode (path ++ 0 ∷ []) (moved capped step s) r hs)
        (λ left. walk_same b mode (path ++ 1 ∷ []) (moved capped step' s) r left))
    walk_same (p.Shares n size step e) mode path q r hs = begun_same n mode path q _ _ (λ i s.
        ap (behind (numbered path i (against capped s (moved capped step (copies_of hs))))) (walk_same e mode (path ++ 0 ∷ []) (copies_of hs) r (later hs)))
    walk_same (p.Calls n c) mode path q r hs = begun_same n mode path q _ _ (λ i s.
        λ j. only (numbered path i (missing_same mode c c.own j ++ call_pairs capped K s r (sums_same mode c (multiples_of hs) j))) (later hs))
    walk_same (p.Lets n parts firsts size e) mode path q r hs = begun_same n mode path q _ _ (λ i s. and_then_same _ _
        (λ left. walk capped K e mode (path ++ length parts ∷ []) (joined capped (nothing capped size) 0 parts (results_of hs)) r left)
        (λ left. walk capped H e mode (path ++ length parts ∷ []) (joined capped (nothing capped size) 0 parts (results_of hs)) r left)
        (each_same (walks capped K firsts) (walks capped H firsts) (walks_same firsts) 0 parts (results_of hs) s mode path (later hs))
        (λ left. walk_same e mode (path ++ length parts ∷ []) (joined capped (nothing capped size) 0 parts (results_of hs)) r left))

    walks_same : (es : p.Plans) → AllSame (walks capped K es) (walks capped H es)
    walks_same p.NoPlans = tt
    walks_same (p.More e es) = (walk_same e, walks_same es)
