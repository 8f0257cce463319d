-- Where no prices are paid, a walk reads no signature that pays, and no scale.
use Rattle.std.proofs.Common.{◌≡◌, refl, ap, ◌∙◌}
use Rattle.std.specs.Prelude.{ℕ, zero, suc, List, [], ◌∷◌, ◌++◌, length, slice_index_or, Option, None, Some}
use Rattle.cost_free.specs.declared.task.Meter.{Meter}
use Rattle.annot_types.specs.Rules.{Mode, With, Own, Past}
use Rattle.rules_spec.specs.Plan as p
use Rattle.rules_spec.specs.Plan.{Plan, Part, Called}
use Rattle.rules_spec.specs.Numbers.{Numbers, Sides, Known, Signature, Hint, Walked}
use Rattle.rules_spec.specs.Kinds.{amounts, forms}
use Rattle.rules_spec.specs.Capped.{capped}
use Rattle.rules_spec.specs.Walk.{Walk, behind, and_then, still, mode_at, moved, joined, nothing, at_zero, at, numbered, against, only, results_of, copies_of, multiples_of, later, begun, each, walk, walks, used, once, taken, free_sides, call_pairs}
use Rattle.rules_walk.specs.Laws.{IsFree, WalksWithoutCost}

module _ {E : Type 0} (A : Numbers E) (K : Known E) (scale : ℕ) (cost : Meter → ℕ → Option Signature) where
  -- the same, but for the scale and the signatures that pay
  abbrev other : Known E
  other = record { scale = scale; budget = K.budget; group = K.group; free = K.free; cost = cost }

  and_then_same : (w w' : Walked E) (next next' : List (Hint E) → Walked E) → w ≡ w' → ((hs : List (Hint E)) → next hs ≡ next' hs) → and_then w next ≡ and_then w' next'
  and_then_same w w' next next' e h = ap (λ x. and_then x next) e ∙ ap (behind w'.found) (h w'.left)

  begun_same : (n : ℕ) (mode : Mode) → IsFree mode → (path : List ℕ) (q : List E) (go go' : ℕ → List E → Walked E) →
      ((i : ℕ) (q : List E) → go i q ≡ go' i q) → begun A K n mode path q go ≡ begun A other n mode path q go'
  begun_same n (With meter) free path q go go' h = absurd free
  begun_same zero Own free path q go go' h = h 0 q
  begun_same (suc n) Own free path q go go' h = h 0 q
  begun_same zero Past free path q go go' h = h 0 q
  begun_same (suc n) Past free path q go go' h = h 0 q

  used_same : (c : Called) (ms : List (ℕ × E)) (out : Sides E) → used A K c ms out ≡ used A other c ms out
  used_same c [] out = refl
  used_same c (m ∷ ms) out = let s = K.free m.0 c.function in used_same c ms (taken A K c s.budget (free_sides A K s m.1) out)

  once_same : (c : Called) (own : Option ℕ) → once A K Own c own ≡ once A other Own c own
  once_same c None = refl
  once_same c (Some k) = refl

  free_at : (j : ℕ) (mode : Mode) → IsFree mode → IsFree (mode_at j mode)
  free_at zero mode free = free
  free_at (suc j) mode free = tt

  -- two walks are the same where no prices are paid
  abbrev Same : Walk E → Walk E → Type 0
  Same w v = (mode : Mode) → IsFree mode → (path : List ℕ) (q r : List E) (hs : List (Hint E)) → w mode path q r hs ≡ v mode path q r hs

  AllSame : List (Walk E) → List (Walk E) → Type 0
  AllSame [] [] = Unit {0}
  AllSame (w ∷ ws) (v ∷ vs) = Same w v × AllSame ws vs
  AllSame _ _ = ⊥

  same_at : (ws vs : List (Walk E)) → AllSame ws vs → (k : ℕ) → Same (slice_index_or ws k still) (slice_index_or vs k still)
  unfolding AllSame
  same_at [] [] a k = λ mode free path q r hs. refl
  same_at [] (v ∷ vs) a k = absurd a
  same_at (w ∷ ws) [] a k = absurd a
  same_at (w ∷ ws) (v ∷ vs) a zero = a.0
  same_at (w ∷ ws) (v ∷ vs) a (suc k) = same_at ws vs a.1 k

  each_same : (ws vs : List (Walk E)) → AllSame ws vs → (j : ℕ) (parts : List Part) (rs : List (List E)) (q : List E) (mode : Mode) → IsFree mode →
      (path : List ℕ) (hs : List (Hint E)) → each A K ws j parts rs q mode path hs ≡ each A other vs j parts rs q mode path hs
  each_same ws vs a j [] rs q mode free path hs = refl
  each_same ws vs a j (part ∷ parts) rs q mode free path hs = and_then_same _ _
      (λ left. each A K ws (suc j) parts rs q mode path left) (λ left. each A other vs (suc j) parts rs q mode path left)
      (same_at ws vs a part.degree (mode_at j mode) (free_at j mode free) (path ++ j ∷ []) (moved A part.there q) (slice_index_or rs j []) hs)
      (λ left. each_same ws vs a (suc j) parts rs q mode free path left)

  mutual
    unfolding AllSame

    walk_same : (e : Plan) → Same (walk A K e) (walk A other e)
    walk_same (p.Ends n cells steps) (With meter) free path q r hs = absurd free
    walk_same (p.Ends n cells steps) Own free path q r hs = begun_same n Own free path q _ _ (λ i s. refl)
    walk_same (p.Ends n cells steps) Past free path q r hs = begun_same n Past free path q _ _ (λ i s. refl)
    walk_same (p.Pays n ticks e) (With meter) free path q r hs = absurd free
    walk_same (p.Pays n ticks e) Own free path q r hs = begun_same n Own free path q _ _ (λ i s.
        ap (behind (numbered path i ((at A s 0, A.number 0) ∷ []))) (walk_same e Own free (path ++ 0 ∷ []) (at_zero (A.less 0) s) r hs))
    walk_same (p.Pays n ticks e) Past free path q r hs = begun_same n Past free path q _ _ (λ i s.
        ap (behind (numbered path i ((at A s 0, A.number 0) ∷ []))) (walk_same e Past free (path ++ 0 ∷ []) (at_zero (A.less 0) s) r hs))
    walk_same (p.Moves n step e) mode free path q r hs = begun_same n mode free path q _ _ (λ i s. walk_same e mode free (path ++ 0 ∷ []) (moved A step s) r hs)
    walk_same (p.Forks n step a step' b) mode free path q r hs = begun_same n mode free path q _ _ (λ i s. and_then_same _ _
        (λ left. walk A K b mode (path ++ 1 ∷ []) (moved A step' s) r left) (λ left. walk A other b mode (path ++ 1 ∷ []) (moved A step' s) r left)
        (walk_same a mode free (path ++ 0 ∷ []) (moved A step s) r hs)
        (λ left. walk_same b mode free (path ++ 1 ∷ []) (moved A step' s) r left))
    walk_same (p.Shares n size step e) mode free path q r hs = begun_same n mode free path q _ _ (λ i s.
        ap (behind (numbered path i (against A s (moved A step (copies_of hs))))) (walk_same e mode free (path ++ 0 ∷ []) (copies_of hs) r (later hs)))
    walk_same (p.Calls n c) (With meter) free path q r hs = absurd free
    walk_same (p.Calls n c) Own free path q r hs = begun_same n Own free path q _ _ (λ i s.
        ap (λ x. only (numbered path i (call_pairs A K s r x)) (later hs))
        (ap (used A K c (multiples_of hs)) (once_same c c.own) ∙ used_same c (multiples_of hs) (once A other Own c c.own)))
    walk_same (p.Calls n c) Past free path q r hs = begun_same n Past free path q _ _ (λ i s.
        ap (λ x. only (numbered path i (call_pairs A K s r x)) (later hs)) (used_same c (multiples_of hs) (once A other Past c c.own)))
    walk_same (p.Lets n parts firsts size e) mode free path q r hs = begun_same n mode free path q _ _ (λ i s. and_then_same _ _
        (λ left. walk A K e mode (path ++ length parts ∷ []) (joined A (nothing A size) 0 parts (results_of hs)) r left)
        (λ left. walk A other e mode (path ++ length parts ∷ []) (joined A (nothing A size) 0 parts (results_of hs)) r left)
        (each_same (walks A K firsts) (walks A other firsts) (walks_same firsts) 0 parts (results_of hs) s mode free path (later hs))
        (λ left. walk_same e mode free (path ++ length parts ∷ []) (joined A (nothing A size) 0 parts (results_of hs)) r left))

    walks_same : (es : p.Plans) → AllSame (walks A K es) (walks A other es)
    walks_same p.NoPlans = tt
    walks_same (p.More e es) = (walk_same e, walks_same es)

pub walks_without_cost : WalksWithoutCost
walks_without_cost = record {
  forms = λ K cost. walk_same forms K K.scale cost;
  amounts = λ t K cost. walk_same (amounts t) K K.scale cost;
  capped = λ K cost. walk_same capped K K.scale cost;
  unscaled = λ t K scale. walk_same (amounts t) K scale K.cost;
}
