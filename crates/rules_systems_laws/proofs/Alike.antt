-- Hints that make no difference to walks.
use Rattle.std.proofs.Common.{◌≡◌, refl, ap, subst}
use Rattle.std.specs.Prelude.{ℕ, zero, suc, ◌*◌, List, [], ◌∷◌, ◌++◌, length, slice_index_or}
use Rattle.cost_free.specs.declared.task.Meter.TheVariants.{Ticks, Cells, Work}
use Rattle.annot_types.specs.Rules.{Mode, With, Own, Past}
use Rattle.rules_spec.specs.Plan as p
use Rattle.rules_spec.specs.Plan.{Plan, Part, Called}
use Rattle.rules_spec.specs.Numbers.{Numbers, Sides, Known, Hint, Results, Copies, Multiples, Condition, Walked}
use Rattle.rules_spec.specs.Walk.{Walk, results_of, copies_of, multiples_of, later, behind, and_then, numbered, still, mode_at, moved, against, nothing, joined, at, charge, begun, group_sides, used, once, refunded, missing, call_pairs, each, walk, walks}
use Rattle.rules_spec.specs.Tasks.{Body, Job, known_by, of_bodies}

module _ {E : Type 0} (A : Numbers E) (G : Known E) where
  -- the same results or copies, or multiples that come to the same
  abbrev pub Alike : Hint E → Hint E → Type 0
  Alike (Results rs) (Results ss) = rs ≡ ss
  Alike (Copies q) (Copies r) = q ≡ r
  Alike (Multiples ms) (Multiples ns) = (c : Called) (out : Sides E) → used A G c ms out ≡ used A G c ns out
  Alike _ _ = ⊥

  abbrev pub AllAlike : List (Hint E) → List (Hint E) → Type 0
  AllAlike [] [] = Unit {0}
  AllAlike (h ∷ hs) (g ∷ gs) = Alike h g × AllAlike hs gs
  AllAlike _ _ = ⊥

  results_same : (hs gs : List (Hint E)) → AllAlike hs gs → results_of hs ≡ results_of gs
  results_same [] [] a = refl
  results_same (Results rs ∷ hs) (Results ss ∷ gs) a = a.0
  results_same (Copies q ∷ hs) (Copies r ∷ gs) a = refl
  results_same (Multiples ms ∷ hs) (Multiples ns ∷ gs) a = refl
  results_same [] (g ∷ gs) a = absurd a
  results_same (h ∷ hs) [] a = absurd a
  results_same (h ∷ hs) (g ∷ gs) a = absurd a.0

  copies_same : (hs gs : List (Hint E)) → AllAlike hs gs → copies_of hs ≡ copies_of gs
  copies_same [] [] a = refl
  copies_same (Results rs ∷ hs) (Results ss ∷ gs) a = refl
  copies_same (Copies q ∷ hs) (Copies r ∷ gs) a = a.0
  copies_same (Multiples ms ∷ hs) (Multiples ns ∷ gs) a = refl
  copies_same [] (g ∷ gs) a = absurd a
  copies_same (h ∷ hs) [] a = absurd a
  copies_same (h ∷ hs) (g ∷ gs) a = absurd a.0

  multiples_same : (hs gs : List (Hint E)) → AllAlike hs gs → (c : Called) (out : Sides E) → used A G c (multiples_of hs) out ≡ used A G c (multiples_of gs) out
  multiples_same [] [] a c out = refl
  multiples_same (Results rs ∷ hs) (Results ss ∷ gs) a c out = refl
  multiples_same (Copies q ∷ hs) (Copies r ∷ gs) a c out = refl
  multiples_same (Multiples ms ∷ hs) (Multiples ns ∷ gs) a c out = a.0 c out
  multiples_same [] (g ∷ gs) a c out = absurd a
  multiples_same (h ∷ hs) [] a c out = absurd a
  multiples_same (h ∷ hs) (g ∷ gs) a c out = absurd a.0

  later_same : (hs gs : List (Hint E)) → AllAlike hs gs → AllAlike (later hs) (later gs)
  later_same [] [] a = tt
  later_same (h ∷ hs) (g ∷ gs) a = a.1
  later_same [] (g ∷ gs) a = absurd a
  later_same (h ∷ hs) [] a = absurd a

  -- the same conditions, and what is left makes no difference
  pub record SameWalk (w v : Walked E) : Type 0 where
    pub found : w.found ≡ v.found
    pub left : AllAlike w.left v.left

  behind_same : (cs : List (Condition E)) (w v : Walked E) → SameWalk w v → SameWalk (behind cs w) (behind cs v)
  behind_same cs w v s = record { found = ap (λ l. cs ++ l) s.found; left = s.left }

  then_same : (w v : Walked E) (next : List (Hint E) → Walked E) → SameWalk w v → ((hs gs : List (Hint E)) → AllAlike hs gs → SameWalk (next hs) (next gs)) →
      SameWalk (and_then w next) (and_then v next)
  then_same w v next s h = let t = h w.left v.left s.left in record { found = λ i. s.found i ++ t.found i; left = t.left }

  begun_same : (n : ℕ) (mode : Mode) (path : List ℕ) (q : List E) (go og : ℕ → List E → Walked E) → ((i : ℕ) (s : List E) → SameWalk (go i s) (og i s)) →
      SameWalk (begun A G n mode path q go) (begun A G n mode path q og)
  begun_same zero mode path q go og h = h 0 q
  begun_same (suc n) (With Ticks) path q go og h = h 0 q
  begun_same (suc n) (With Cells) path q go og h = h 0 q
  begun_same (suc n) (With Work) path q go og h = behind_same (numbered path 0 ((at A q 0, A.number (suc n * G.scale)) ∷ [])) _ _ (h 1 _)
  begun_same (suc n) Own path q go og h = h 0 q
  begun_same (suc n) Past path q go og h = h 0 q

  -- alike hints make no difference to the walk
  abbrev pub Same : Walk E → Type 0
  Same w = (mode : Mode) (path : List ℕ) (q r : List E) (hs gs : List (Hint E)) → AllAlike hs gs → SameWalk (w mode path q r hs) (w mode path q r gs)

  abbrev pub AllSame : List (Walk E) → Type 0
  AllSame [] = Unit {0}
  AllSame (w ∷ ws) = Same w × AllSame ws

  same_at : (ws : List (Walk E)) → AllSame ws → (k : ℕ) → Same (slice_index_or ws k still)
  same_at [] s k = λ mode path q r hs gs a. record { found = refl; left = a }
  same_at (w ∷ ws) s zero = s.0
  same_at (w ∷ ws) s (suc k) = same_at ws s.1 k

  each_same : (ws : List (Walk E)) → AllSame ws → (j : ℕ) (parts : List Part) (rs : List (List E)) (q : List E) (mode : Mode) (path : List ℕ) (hs gs : List (Hint E)) → AllAlike hs gs →
      SameWalk (each A G ws j parts rs q mode path hs) (each A G ws j parts rs q mode path gs)
  each_same ws s j [] rs q mode path hs gs a = record { found = refl; left = a }
  each_same ws s j (part ∷ parts) rs q mode path hs gs a =
      then_same _ _ (λ left. each A G ws (suc j) parts rs q mode path left)
      (same_at ws s part.degree (mode_at j mode) (path ++ j ∷ []) (moved A part.there q) (slice_index_or rs j []) hs gs a)
      (λ hs gs a. each_same ws s (suc j) parts rs q mode path hs gs a)

  mutual
    pub walk_same : (e : Plan) → Same (walk A G e)
    walk_same (p.Ends n cells steps) mode path q r hs gs a = begun_same n mode path q _ _ (λ i s. record { found = refl; left = a })
    walk_same (p.Pays n ticks e) mode path q r hs gs a = begun_same n mode path q _ _ (λ i s. behind_same (numbered path i ((at A s 0, A.number (charge G.scale mode Ticks ticks)) ∷ [])) _ _ (walk_same e mode _ _ r hs gs a))
    walk_same (p.Moves n step e) mode path q r hs gs a = begun_same n mode path q _ _ (λ i s. walk_same e mode _ _ r hs gs a)
    walk_same (p.Forks n step e other f) mode path q r hs gs a = begun_same n mode path q _ _ (λ i s.
        then_same _ _ (λ left. walk A G f mode (path ++ 1 ∷ []) (moved A other s) r left)
        (walk_same e mode (path ++ 0 ∷ []) (moved A step s) r hs gs a) (λ hs gs a. walk_same f mode (path ++ 1 ∷ []) (moved A other s) r hs gs a))
    walk_same (p.Shares n size step e) mode path q r hs gs a = begun_same n mode path q _ _ (λ i s.
        subst (λ c. SameWalk (behind (numbered path i (against A s (moved A step (copies_of hs)))) (walk A G e mode (path ++ 0 ∷ []) (copies_of hs) r (later hs)))
        (behind (numbered path i (against A s (moved A step c))) (walk A G e mode (path ++ 0 ∷ []) c r (later gs)))) (copies_same hs gs a)
        (behind_same (numbered path i (against A s (moved A step (copies_of hs)))) _ _ (walk_same e mode (path ++ 0 ∷ []) (copies_of hs) r (later hs) (later gs) (later_same hs gs a))))
    walk_same (p.Calls n c) mode path q r hs gs a = begun_same n mode path q _ _ (λ i s. record {
      found = ap (λ x. numbered path i (missing A G mode c c.own ++ call_pairs A G s r (refunded A G mode x))) (multiples_same hs gs a c (once A G mode c c.own));
      left = later_same hs gs a;
    })
    walk_same (p.Lets n parts firsts size e) mode path q r hs gs a = begun_same n mode path q _ _ (λ i s.
        let rest = λ (rs : List (List E)) (left : List (Hint E)). walk A G e mode (path ++ length parts ∷ []) (joined A (nothing A size) 0 parts rs) r left in
        let whole = λ (rs : List (List E)) (hs : List (Hint E)). and_then (each A G (walks A G firsts) 0 parts rs s mode path hs) (rest rs) in
        subst (λ rs. SameWalk (whole (results_of hs) (later hs)) (whole rs (later gs))) (results_same hs gs a)
        (then_same _ _ (rest (results_of hs)) (each_same (walks A G firsts) (all_same firsts) 0 parts (results_of hs) s mode path (later hs) (later gs) (later_same hs gs a))
        (λ hs' gs' a. walk_same e mode (path ++ length parts ∷ []) (joined A (nothing A size) 0 parts (results_of hs)) r hs' gs' a)))

    pub all_same : (es : p.Plans) → AllSame (walks A G es)
    all_same p.NoPlans = tt
    all_same (p.More e es) = (walk_same e, all_same es)

-- So alike hints of all bodies have the same conditions.
abbrev pub BodiesAlike : {E : Type 0} → Numbers E → Known E → List (List (Hint E)) → List (List (Hint E)) → Type 0
BodiesAlike A G [] [] = Unit {0}
BodiesAlike A G (hs ∷ hss) (gs ∷ gss) = AllAlike A G hs gs × BodiesAlike A G hss gss
BodiesAlike A G _ _ = ⊥

pub bodies_same : {E : Type 0} (A : Numbers E) (j : Job) (group : List (Sides E)) (k : ℕ) (bs : List Body) (hss gss : List (List (Hint E))) → BodiesAlike A (known_by j group) hss gss →
    of_bodies A j group k bs hss ≡ of_bodies A j group k bs gss
bodies_same A j group k [] hss gss a = refl
bodies_same A j group k (b ∷ bs) [] [] a = refl
bodies_same A j group k (b ∷ bs) [] (gs ∷ gss) a = absurd a
bodies_same A j group k (b ∷ bs) (hs ∷ hss) [] a = absurd a
bodies_same A j group k (b ∷ bs) (hs ∷ hss) (gs ∷ gss) a =
    λ i. (walk_same A (known_by j group) b.plan j.mode (k ∷ []) (group_sides A (known_by j group) k).args (group_sides A (known_by j group) k).result hs gs a.0).found i ++ bodies_same A j group (suc k) bs hss gss a.1 i
