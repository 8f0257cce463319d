-- Where no prices are paid, told numbers may be taken any number of times.
use Rattle.std.proofs.Common.{◌≡◌, refl, ap, ◌∙◌, arith}
use Rattle.std.specs.Prelude.{ℕ, zero, suc, ◌+◌, ◌*◌, List, [], ◌∷◌, ◌++◌, length, slice_index_or, Option, None, Some}
use Rattle.index_shift.specs.declared.entry.Entry.{Entry}
use Rattle.cost_free.specs.declared.task.Meter.{Meter}
use Rattle.cost_free.specs.declared.task.Meter.TheVariants.{Ticks, Cells}
use Rattle.annot_types.specs.Rules.{Mode, With, Own, Past}
use Rattle.rules_spec.specs.Plan as p
use Rattle.rules_spec.specs.Plan.{Plan, Step, Part, Called}
use Rattle.rules_spec.specs.Numbers.{Numbers, Sides, Known, Hint, Walked}
use Rattle.rules_spec.specs.Kinds.{Amount, amounts}
use Rattle.rules_spec.specs.Walk.{Walk, charge, results_of, copies_of, multiples_of, later, only, behind, and_then, numbered, still, mode_at, at, added, brought, nothing, moved, all_moved, against, multiples, joined, at_zero, begun, group_sides, taken, none_taken, free_sides, once, used, sums, missing, call_pairs, each, walk, walks}
use Rattle.rules_spec.specs.Tasks.{Body, Job, known_by, of_bodies}

-- a mode without prices
abbrev pub IsFree : Mode → Type 0
IsFree (With meter) = ⊥
IsFree Own = Unit {0}
IsFree Past = Unit {0}

module _ (t u : ℕ) where
  abbrev A : Numbers Amount
  A = amounts t

  abbrev B : Numbers Amount
  B = amounts u

  none_times : t * 0 ≡ u * 0
  none_times = omega arith

  brought_free : (out : List Amount) (es : List Entry) (q : List Amount) → brought A out es q ≡ brought B out es q
  brought_free out [] q = refl
  brought_free out (e ∷ es) q = brought_free (added A out e.to e.times (at A q e.from)) es q

  nothing_free : (n : ℕ) → nothing A n ≡ nothing B n
  nothing_free zero = refl
  nothing_free (suc n) = ap (λ l. A.none ∷ l) (nothing_free n)

  moved_free : (s : Step) (q : List Amount) → moved A s q ≡ moved B s q
  moved_free s q = ap (λ out. brought A out s.entries q) (nothing_free s.size) ∙ brought_free (nothing B s.size) s.entries q

  all_moved_free : (ss : List Step) (q : List Amount) → all_moved A ss q ≡ all_moved B ss q
  all_moved_free [] q = refl
  all_moved_free (s ∷ ss) q = ap (all_moved A ss) (moved_free s q) ∙ all_moved_free ss (moved B s q)

  against_free : (q r : List Amount) → against A q r ≡ against B q r
  against_free q [] = refl
  against_free [] (y ∷ ys) = ap (λ l. (A.none, y) ∷ l) (against_free [] ys)
  against_free (x ∷ q) (y ∷ ys) = ap (λ l. (x, y) ∷ l) (against_free q ys)

  joined_free : (out : List Amount) (j : ℕ) (parts : List Part) (rs : List (List Amount)) → joined A out j parts rs ≡ joined B out j parts rs
  joined_free out j [] rs = refl
  joined_free out j (part ∷ parts) rs =
      ap (λ next. joined A next (suc j) parts rs) (brought_free out part.joins (slice_index_or rs j [])) ∙ joined_free (brought B out part.joins (slice_index_or rs j [])) (suc j) parts rs

  multiples_free : (x : Amount) (ns : List ℕ) → multiples A x ns ≡ multiples B x ns
  multiples_free x [] = refl
  multiples_free x (n ∷ ns) = ap (λ l. A.times n x ∷ l) (multiples_free x ns)

  module _ (G : Known Amount) (scale : ℕ) where
    abbrev H : Known Amount
    H = record { scale = scale; budget = G.budget; group = G.group; free = G.free; cost = G.cost }

    charged : (mode : Mode) → IsFree mode → (meter : Meter) (n : ℕ) → t * charge G.scale mode meter n ≡ u * charge scale mode meter n
    charged (With m) f meter n = absurd f
    charged Own f meter n = none_times
    charged Past f meter n = none_times

    number_free : (mode : Mode) → IsFree mode → (meter : Meter) (n : ℕ) → A.number (charge G.scale mode meter n) ≡ B.number (charge scale mode meter n)
    number_free mode f meter n = λ i. record { plus = charged mode f meter n i; minus = 0 }

    less_free : (mode : Mode) → IsFree mode → (meter : Meter) (n : ℕ) → A.less (charge G.scale mode meter n) ≡ B.less (charge scale mode meter n)
    less_free mode f meter n = λ i x. record { plus = x.plus; minus = x.minus + charged mode f meter n i }

    begun_free : (n : ℕ) (mode : Mode) → IsFree mode → (path : List ℕ) (q : List Amount) (go og : ℕ → List Amount → Walked Amount) → ((i : ℕ) (s : List Amount) → go i s ≡ og i s) →
        begun A G n mode path q go ≡ begun B H n mode path q og
    begun_free n (With m) f path q go og h = absurd f
    begun_free zero Own f path q go og h = h 0 q
    begun_free zero Past f path q go og h = h 0 q
    begun_free (suc n) Own f path q go og h = h 0 q
    begun_free (suc n) Past f path q go og h = h 0 q

    then_free : (w v : Walked Amount) (next other : List (Hint Amount) → Walked Amount) → w ≡ v → ((left : List (Hint Amount)) → next left ≡ other left) → and_then w next ≡ and_then v other
    then_free w v next other e h = λ i. and_then (e i) (λ left. h left i)

    none_taken_free : (c : Called) → none_taken A G c ≡ none_taken B H c
    none_taken_free c = λ i. record { args = nothing_free c.args i; result = nothing_free c.result i }

    taken_free : (c : Called) (budget : ℕ) (s out : Sides Amount) → taken A G c budget s out ≡ taken B H c budget s out
    taken_free c budget s out = λ i. record {
      args = brought_free out.args (slice_index_or c.args_from budget []) s.args i;
      result = brought_free out.result (slice_index_or c.result_from budget []) s.result i;
    }

    once_free : (mode : Mode) → IsFree mode → (c : Called) (own : Option ℕ) → once A G mode c own ≡ once B H mode c own
    once_free (With m) f c own = absurd f
    once_free Past f c own = none_taken_free c
    once_free Own f c None = none_taken_free c
    once_free Own f c (Some k) = ap (taken A G c G.budget (group_sides A G k)) (none_taken_free c) ∙ taken_free c G.budget (group_sides A G k) (none_taken B H c)

    used_free : (c : Called) (ms : List (ℕ × Amount)) (out : Sides Amount) → used A G c ms out ≡ used B H c ms out
    used_free c [] out = refl
    used_free c (m ∷ ms) out =
        let s = G.free m.0 c.function in
        ap (used A G c ms) ((λ i. taken A G c s.budget (record { args = multiples_free m.1 s.args i; result = multiples_free m.1 s.result i }) out) ∙ taken_free c s.budget (free_sides B H s m.1) out)
        ∙ used_free c ms (taken B H c s.budget (free_sides B H s m.1) out)

    sums_free : (mode : Mode) → IsFree mode → (c : Called) (ms : List (ℕ × Amount)) → sums A G mode c ms ≡ sums B H mode c ms
    sums_free (With m) f c ms = absurd f
    sums_free Own f c ms = ap (used A G c ms) (once_free Own f c c.own) ∙ used_free c ms (once B H Own c c.own)
    sums_free Past f c ms = ap (used A G c ms) (once_free Past f c c.own) ∙ used_free c ms (once B H Past c c.own)

    missing_free : (mode : Mode) → IsFree mode → (c : Called) (own : Option ℕ) → missing A G mode c own ≡ missing B H mode c own
    missing_free (With m) f c own = absurd f
    missing_free Own f c own = refl
    missing_free Past f c own = refl

    pairs_free : (q r : List Amount) (s : Sides Amount) → call_pairs A G q r s ≡ call_pairs B H q r s
    pairs_free q r s = λ i. against_free q s.args i ++ against_free s.result r i

    abbrev Free : Walk Amount → Walk Amount → Type 0
    Free w v = (mode : Mode) → IsFree mode → (path : List ℕ) (q r : List Amount) (hs : List (Hint Amount)) → w mode path q r hs ≡ v mode path q r hs

    abbrev AllFree : List (Walk Amount) → List (Walk Amount) → Type 0
    AllFree [] [] = Unit {0}
    AllFree (w ∷ ws) (v ∷ vs) = Free w v × AllFree ws vs
    AllFree _ _ = ⊥

    free_at : (ws vs : List (Walk Amount)) → AllFree ws vs → (k : ℕ) → Free (slice_index_or ws k still) (slice_index_or vs k still)
    free_at [] [] a k = λ mode f path q r hs. refl
    free_at [] (v ∷ vs) a k = absurd a
    free_at (w ∷ ws) [] a k = absurd a
    free_at (w ∷ ws) (v ∷ vs) a zero = a.0
    free_at (w ∷ ws) (v ∷ vs) a (suc k) = free_at ws vs a.1 k

    free_mode : (j : ℕ) (mode : Mode) → IsFree mode → IsFree (mode_at j mode)
    free_mode zero mode f = f
    free_mode (suc j) mode f = tt

    each_free : (ws vs : List (Walk Amount)) → AllFree ws vs → (j : ℕ) (parts : List Part) (rs : List (List Amount)) (q : List Amount) (mode : Mode) → IsFree mode →
        (path : List ℕ) (hs : List (Hint Amount)) → each A G ws j parts rs q mode path hs ≡ each B H vs j parts rs q mode path hs
    each_free ws vs a j [] rs q mode f path hs = refl
    each_free ws vs a j (part ∷ parts) rs q mode f path hs =
        let w = slice_index_or ws part.degree still in
        then_free _ _ (λ left. each A G ws (suc j) parts rs q mode path left) (λ left. each B H vs (suc j) parts rs q mode path left)
        (ap (λ s. w (mode_at j mode) (path ++ j ∷ []) s (slice_index_or rs j []) hs) (moved_free part.there q)
        ∙ free_at ws vs a part.degree (mode_at j mode) (free_mode j mode f) (path ++ j ∷ []) (moved B part.there q) (slice_index_or rs j []) hs)
        (λ left. each_free ws vs a (suc j) parts rs q mode f path left)

    mutual
      pub walk_free : (e : Plan) → Free (walk A G e) (walk B H e)
      walk_free (p.Ends n cells steps) mode f path q r hs = begun_free n mode f path q _ _ (λ i s.
          ap (λ rows. only (numbered path i rows) hs)
          ((λ k. against A s (at_zero (A.plus (number_free mode f Cells cells k)) (all_moved_free steps r k)))
          ∙ against_free s (at_zero (B.plus (B.number (charge scale mode Cells cells))) (all_moved B steps r))))
      walk_free (p.Pays n ticks e) mode f path q r hs = begun_free n mode f path q _ _ (λ i s.
          (λ k. behind (numbered path i ((at A s 0, number_free mode f Ticks ticks k) ∷ [])) (walk A G e mode (path ++ 0 ∷ []) (at_zero (less_free mode f Ticks ticks k) s) r hs))
          ∙ ap (behind (numbered path i ((at B s 0, B.number (charge scale mode Ticks ticks)) ∷ []))) (walk_free e mode f (path ++ 0 ∷ []) (at_zero (B.less (charge scale mode Ticks ticks)) s) r hs))
      walk_free (p.Moves n step e) mode f path q r hs = begun_free n mode f path q _ _ (λ i s.
          ap (λ z. walk A G e mode (path ++ 0 ∷ []) z r hs) (moved_free step s) ∙ walk_free e mode f (path ++ 0 ∷ []) (moved B step s) r hs)
      walk_free (p.Forks n step e other g) mode f path q r hs = begun_free n mode f path q _ _ (λ i s.
          then_free _ _ (λ left. walk A G g mode (path ++ 1 ∷ []) (moved A other s) r left) (λ left. walk B H g mode (path ++ 1 ∷ []) (moved B other s) r left)
          (ap (λ z. walk A G e mode (path ++ 0 ∷ []) z r hs) (moved_free step s) ∙ walk_free e mode f (path ++ 0 ∷ []) (moved B step s) r hs)
          (λ left. ap (λ z. walk A G g mode (path ++ 1 ∷ []) z r left) (moved_free other s) ∙ walk_free g mode f (path ++ 1 ∷ []) (moved B other s) r left))
      walk_free (p.Shares n size step e) mode f path q r hs = begun_free n mode f path q _ _ (λ i s. λ k.
          behind (numbered path i ((ap (against A s) (moved_free step (copies_of hs)) ∙ against_free s (moved B step (copies_of hs))) k))
          (walk_free e mode f (path ++ 0 ∷ []) (copies_of hs) r (later hs) k))
      walk_free (p.Calls n c) mode f path q r hs = begun_free n mode f path q _ _ (λ i s. λ k.
          only (numbered path i (missing_free mode f c c.own k
          ++ (ap (call_pairs A G s r) (sums_free mode f c (multiples_of hs)) ∙ pairs_free s r (sums B H mode c (multiples_of hs))) k)) (later hs))
      walk_free (p.Lets n parts firsts size e) mode f path q r hs = begun_free n mode f path q _ _ (λ i s.
          let rs = results_of hs in
          then_free _ _ (λ left. walk A G e mode (path ++ length parts ∷ []) (joined A (nothing A size) 0 parts rs) r left)
          (λ left. walk B H e mode (path ++ length parts ∷ []) (joined B (nothing B size) 0 parts rs) r left)
          (each_free (walks A G firsts) (walks B H firsts) (all_free firsts) 0 parts rs s mode f path (later hs))
          (λ left. ap (λ z. walk A G e mode (path ++ length parts ∷ []) z r left) (ap (λ out. joined A out 0 parts rs) (nothing_free size) ∙ joined_free (nothing B size) 0 parts rs)
          ∙ walk_free e mode f (path ++ length parts ∷ []) (joined B (nothing B size) 0 parts rs) r left))

      pub all_free : (es : p.Plans) → AllFree (walks A G es) (walks B H es)
      all_free p.NoPlans = tt
      all_free (p.More e es) = (walk_free e, all_free es)

  -- the same of the bodies of a job, at any scale
  pub bodies_free : (j : Job) (scale : ℕ) → IsFree j.mode → (group : List (Sides Amount)) (k : ℕ) (bs : List Body) (hss : List (List (Hint Amount))) →
      let other : Job = record { bodies = j.bodies; mode = j.mode; scale = scale; budget = j.budget; free = j.free; cost = j.cost; function = j.function; target = j.target } in
      of_bodies A j group k bs hss ≡ of_bodies B other group k bs hss
  bodies_free j scale f group k [] hss = refl
  bodies_free j scale f group k (b ∷ bs) [] = refl
  bodies_free j scale f group k (b ∷ bs) (hs ∷ hss) =
      let s = group_sides A (known_by j group) k in
      λ i. (walk_free (known_by j group) scale b.plan j.mode f (k ∷ []) s.args s.result hs i).found ++ bodies_free j scale f group (suc k) bs hss i
