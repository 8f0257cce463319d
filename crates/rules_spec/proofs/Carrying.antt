-- What is carried may be carried before the walk or behind it.
use Rattle.std.proofs.Common.{◌≡◌, refl, ap, sym, ◌∙◌}
use Rattle.std.specs.Prelude.{ℕ, zero, suc, ◌*◌, List, [], ◌∷◌, ◌++◌, map, length, slice_index_or, slice_set, Option, None, Some}
use Rattle.std.proofs.Math.ListN.{get_or-map}
use Rattle.std.proofs.lemmas.List.{map-set, map-append}
use Rattle.index_shift.specs.declared.entry.Entry.{Entry}
use Rattle.rules_spec.specs.Plan as p
use Rattle.rules_spec.specs.Plan.{Plan, Step, Part, Called}
use Rattle.cost_free.specs.declared.task.Meter.TheVariants.{Ticks, Cells, Work}
use Rattle.annot_types.specs.Rules.{Mode, With, Own, Past}
use Rattle.rules_spec.specs.Numbers.{Numbers, Sides, Signature, Known, Hint, Results, Copies, Multiples, Condition, Walked, Carries}
use Rattle.rules_spec.specs.Walk.{results_of, copies_of, multiples_of, later, only, behind, and_then, numbered, Walk, still, at_zero, mode_at, charge, at, added, brought, nothing, moved, all_moved, against, numbers, multiples, joined, begun, group_sides, taken, cost_sides, free_sides, none_taken, paid, once, refunded, used, sums, unpaid, missing, call_pairs, each, walk, walks}
use Rattle.rules_spec.specs.Carried.{sides_to, known_to, multiple_to, hint_to, condition_to, walked_to, Agree, WalksCarry}

module _ {E F : Type 0} (f : E → F) where
  pair_to : E × E → F × F
  pair_to e = (f e.0, f e.1)

  behind_to : (cs : List (Condition E)) (w : Walked E) → walked_to f (behind cs w) ≡ behind (map (condition_to f) cs) (walked_to f w)
  behind_to cs w = λ i. record { found = map-append (condition_to f) cs w.found i; left = map (hint_to f) w.left }

  and_then_to : (w : Walked E) (w' : Walked F) (next : List (Hint E) → Walked E) (next' : List (Hint F) → Walked F) → w' ≡ walked_to f w →
      ((hs : List (Hint E)) → next' (map (hint_to f) hs) ≡ walked_to f (next hs)) → and_then w' next' ≡ walked_to f (and_then w next)
  and_then_to w w' next next' e h =
      ap (λ x. and_then x next') e ∙ ap (behind (map (condition_to f) w.found)) (h w.left) ∙ sym (behind_to w.found (next w.left))

  numbered_to : (path : List ℕ) (i : ℕ) (es : List (E × E)) → numbered path i (map pair_to es) ≡ map (condition_to f) (numbered path i es)
  unfolding pair_to
  numbered_to path i [] = refl
  numbered_to path i (e ∷ es) = ap (λ l. record { path = path; index = i; left = f e.0; right = f e.1 } ∷ l) (numbered_to path (suc i) es)

  results_to : (hs : List (Hint E)) → results_of (map (hint_to f) hs) ≡ map (map f) (results_of hs)
  results_to [] = refl
  results_to (Results rs ∷ hs) = refl
  results_to (Copies q ∷ hs) = refl
  results_to (Multiples ms ∷ hs) = refl

  copies_to : (hs : List (Hint E)) → copies_of (map (hint_to f) hs) ≡ map f (copies_of hs)
  copies_to [] = refl
  copies_to (Results rs ∷ hs) = refl
  copies_to (Copies q ∷ hs) = refl
  copies_to (Multiples ms ∷ hs) = refl

  multiples_to : (hs : List (Hint E)) → multiples_of (map (hint_to f) hs) ≡ map (multiple_to f) (multiples_of hs)
  multiples_to [] = refl
  multiples_to (Results rs ∷ hs) = refl
  multiples_to (Copies q ∷ hs) = refl
  multiples_to (Multiples ms ∷ hs) = refl

  later_to : (hs : List (Hint E)) → later (map (hint_to f) hs) ≡ map (hint_to f) (later hs)
  later_to [] = refl
  later_to (h ∷ hs) = refl

  at_zero_to : (g : E → E) (g' : F → F) → ((x : E) → g' (f x) ≡ f (g x)) → (q : List E) → at_zero g' (map f q) ≡ map f (at_zero g q)
  at_zero_to g g' h [] = refl
  at_zero_to g g' h (x ∷ xs) = ap (λ y. y ∷ map f xs) (h x)

  AllAgree : List (Walk E) → List (Walk F) → Type 0
  AllAgree [] [] = Unit {0}
  AllAgree [] (v ∷ vs) = ⊥
  AllAgree (w ∷ ws) [] = ⊥
  AllAgree (w ∷ ws) (v ∷ vs) = Agree f w v × AllAgree ws vs

  agree_at : (ws : List (Walk E)) (vs : List (Walk F)) → AllAgree ws vs → (k : ℕ) → Agree f (slice_index_or ws k still) (slice_index_or vs k still)
  unfolding AllAgree
  agree_at [] [] a k = λ mode path q r hs. refl
  agree_at [] (v ∷ vs) a k = absurd a
  agree_at (w ∷ ws) [] a k = absurd a
  agree_at (w ∷ ws) (v ∷ vs) a zero = a.0
  agree_at (w ∷ ws) (v ∷ vs) a (suc k) = agree_at ws vs a.1 k

module _ {E F : Type 0} (A : Numbers E) (B : Numbers F) (f : E → F) (c : Carries A B f) where
  pub at_to : (q : List E) (k : ℕ) → at B (map f q) k ≡ f (at A q k)
  at_to q k = ap (λ d. slice_index_or (map f q) k d) (sym c.none) ∙ get_or-map f q k A.none

  added_to : (q : List E) (k n : ℕ) (x : E) → added B (map f q) k n (f x) ≡ map f (added A q k n x)
  added_to q k n x =
      ap (slice_set (map f q) k) ((λ i. B.plus (at_to q k i) (sym (c.times n x) i)) ∙ sym (c.plus (at A q k) (A.times n x)))
      ∙ sym (map-set f q k (A.plus (at A q k) (A.times n x)))

  nothing_to : (n : ℕ) → nothing B n ≡ map f (nothing A n)
  nothing_to zero = refl
  nothing_to (suc n) = λ i. sym c.none i ∷ nothing_to n i

  brought_to : (out : List E) (es : List Entry) (q : List E) → brought B (map f out) es (map f q) ≡ map f (brought A out es q)
  brought_to out [] q = refl
  brought_to out (e ∷ es) q =
      ap (λ o. brought B o es (map f q)) (ap (added B (map f out) e.to e.times) (at_to q e.from) ∙ added_to out e.to e.times (at A q e.from))
      ∙ brought_to (added A out e.to e.times (at A q e.from)) es q

  moved_to : (s : Step) (q : List E) → moved B s (map f q) ≡ map f (moved A s q)
  moved_to s q = ap (λ o. brought B o s.entries (map f q)) (nothing_to s.size) ∙ brought_to (nothing A s.size) s.entries q

  all_moved_to : (ss : List Step) (q : List E) → all_moved B ss (map f q) ≡ map f (all_moved A ss q)
  all_moved_to [] q = refl
  all_moved_to (s ∷ ss) q = ap (all_moved B ss) (moved_to s q) ∙ all_moved_to ss (moved A s q)

  against_to : (q ys : List E) → against B (map f q) (map f ys) ≡ map (pair_to f) (against A q ys)
  unfolding pair_to
  against_to [] [] = refl
  against_to (x ∷ q) [] = refl
  against_to [] (y ∷ ys) = λ i. (sym c.none i, f y) ∷ against_to [] ys i
  against_to (x ∷ q) (y ∷ ys) = ap (λ l. (f x, f y) ∷ l) (against_to q ys)

  numbers_to : (ns : List ℕ) → numbers B ns ≡ map f (numbers A ns)
  numbers_to [] = refl
  numbers_to (n ∷ ns) = λ i. sym (c.number n) i ∷ numbers_to ns i

  multiples_of_to : (x : E) (ns : List ℕ) → multiples B (f x) ns ≡ map f (multiples A x ns)
  multiples_of_to x [] = refl
  multiples_of_to x (n ∷ ns) = λ i. sym (c.times n x) i ∷ multiples_of_to x ns i

  joined_to : (out : List E) (j : ℕ) (parts : List Part) (rs : List (List E)) → joined B (map f out) j parts (map (map f) rs) ≡ map f (joined A out j parts rs)
  joined_to out j [] rs = refl
  joined_to out j (part ∷ parts) rs =
      ap (λ o. joined B o (suc j) parts (map (map f) rs)) (ap (brought B (map f out) part.joins) (get_or-map (map f) rs j []) ∙ brought_to out part.joins (slice_index_or rs j []))
      ∙ joined_to (brought A out part.joins (slice_index_or rs j [])) (suc j) parts rs

  raised_to : (k : ℕ) (ys : List E) → at_zero (B.plus (B.number k)) (map f ys) ≡ map f (at_zero (A.plus (A.number k)) ys)
  raised_to k ys = at_zero_to f (A.plus (A.number k)) (B.plus (B.number k)) (λ x. ap (λ y. B.plus y (f x)) (sym (c.number k)) ∙ sym (c.plus (A.number k) x)) ys

  lowered_to : (k : ℕ) (q : List E) → at_zero (B.less k) (map f q) ≡ map f (at_zero (A.less k) q)
  lowered_to k q = at_zero_to f (A.less k) (B.less k) (λ x. sym (c.less k x)) q

  module _ (G : Known E) where
    begun_to : (n : ℕ) (mode : Mode) (path : List ℕ) (q : List E) (go : ℕ → List E → Walked E) (go' : ℕ → List F → Walked F) →
        ((i : ℕ) (s : List E) → go' i (map f s) ≡ walked_to f (go i s)) →
        begun B (known_to f G) n mode path (map f q) go' ≡ walked_to f (begun A G n mode path q go)
    begun_to zero mode path q go go' h = h 0 q
    begun_to (suc n) (With Ticks) path q go go' h = h 0 q
    begun_to (suc n) (With Cells) path q go go' h = h 0 q
    begun_to (suc n) Own path q go go' h = h 0 q
    begun_to (suc n) Past path q go go' h = h 0 q
    begun_to (suc n) (With Work) path q go go' h =
        let k = suc n * G.scale in
        (λ i. behind (numbered path 0 ((at_to q 0 i, sym (c.number k) i) ∷ [])) (go' 1 (lowered_to k q i)))
        ∙ ap (behind (numbered path 0 ((f (at A q 0), f (A.number k)) ∷ []))) (h 1 (at_zero (A.less k) q))
        ∙ sym (behind_to f (numbered path 0 ((at A q 0, A.number k) ∷ [])) (go 1 (at_zero (A.less k) q)))

    none_taken_to : (d : Called) → none_taken B (known_to f G) d ≡ sides_to f (none_taken A G d)
    none_taken_to d = λ i. record { args = nothing_to d.args i; result = nothing_to d.result i }

    taken_to : (d : Called) (b : ℕ) (s out : Sides E) →
        taken B (known_to f G) d b (sides_to f s) (sides_to f out) ≡ sides_to f (taken A G d b s out)
    taken_to d b s out = λ i. record { args = brought_to out.args (slice_index_or d.args_from b []) s.args i; result = brought_to out.result (slice_index_or d.result_from b []) s.result i }

    -- what is taken once, from any signature that can be carried
    taken_once : (d : Called) (b : ℕ) (s : Sides F) (t : Sides E) → s ≡ sides_to f t →
        taken B (known_to f G) d b s (none_taken B (known_to f G) d)
        ≡ sides_to f (taken A G d b t (none_taken A G d))
    taken_once d b s t e =
        (λ i. taken B (known_to f G) d b (e i) (none_taken_to d i)) ∙ taken_to d b t (none_taken A G d)

    pub group_to : (k : ℕ) → group_sides B (known_to f G) k ≡ sides_to f (group_sides A G k)
    group_to k = get_or-map (sides_to f) G.group k (record { args = []; result = [] })

    cost_to : (s : Signature) → cost_sides B (known_to f G) s ≡ sides_to f (cost_sides A G s)
    cost_to s = λ i. record { args = numbers_to s.args i; result = numbers_to s.result i }

    free_to : (s : Signature) (x : E) → free_sides B (known_to f G) s (f x) ≡ sides_to f (free_sides A G s x)
    free_to s x = λ i. record { args = multiples_of_to x s.args i; result = multiples_of_to x s.result i }

    paid_to : (d : Called) (s : Option Signature) → paid B (known_to f G) d s ≡ sides_to f (paid A G d s)
    paid_to d None = none_taken_to d
    paid_to d (Some s) = taken_once d s.budget _ _ (cost_to s)

    unpaid_to : (s : Option Signature) → unpaid B (known_to f G) s ≡ map (pair_to f) (unpaid A G s)
    unfolding pair_to
    unpaid_to None = λ i. (sym c.none i, sym (c.number 1) i) ∷ []
    unpaid_to (Some s) = refl

    missing_to : (mode : Mode) (d : Called) (own : Option ℕ) → missing B (known_to f G) mode d own ≡ map (pair_to f) (missing A G mode d own)
    missing_to (With m) d None = unpaid_to (G.cost m d.function)
    missing_to (With m) d (Some k) = refl
    missing_to Own d own = refl
    missing_to Past d own = refl

    once_to : (mode : Mode) (d : Called) (own : Option ℕ) → once B (known_to f G) mode d own ≡ sides_to f (once A G mode d own)
    once_to Past d own = none_taken_to d
    once_to Own d None = none_taken_to d
    once_to Own d (Some k) = taken_once d G.budget _ _ (group_to k)
    once_to (With m) d (Some k) = taken_once d G.budget _ _ (group_to k)
    once_to (With m) d None = paid_to d (G.cost m d.function)

    refunded_to : (mode : Mode) (s : Sides E) → refunded B (known_to f G) mode (sides_to f s) ≡ sides_to f (refunded A G mode s)
    refunded_to (With Ticks) s = refl
    refunded_to (With Cells) s = refl
    refunded_to (With Work) s = λ i. record { args = lowered_to G.scale s.args i; result = map f s.result }
    refunded_to Own s = refl
    refunded_to Past s = refl

    used_to : (d : Called) (ms : List (ℕ × E)) (out : Sides E) →
        used B (known_to f G) d (map (multiple_to f) ms) (sides_to f out) ≡ sides_to f (used A G d ms out)
    used_to d [] out = refl
    used_to d (m ∷ ms) out =
        let s = G.free m.0 d.function in
        ap (λ o. used B (known_to f G) d (map (multiple_to f) ms) o)
        (ap (λ x. taken B (known_to f G) d s.budget x (sides_to f out)) (free_to s m.1)
        ∙ taken_to d s.budget (free_sides A G s m.1) out)
        ∙ used_to d ms (taken A G d s.budget (free_sides A G s m.1) out)

    sums_to : (mode : Mode) (d : Called) (ms : List (ℕ × E)) → sums B (known_to f G) mode d (map (multiple_to f) ms) ≡ sides_to f (sums A G mode d ms)
    sums_to mode d ms =
        ap (refunded B (known_to f G) mode)
        (ap (used B (known_to f G) d (map (multiple_to f) ms)) (once_to mode d d.own) ∙ used_to d ms (once A G mode d d.own))
        ∙ refunded_to mode (used A G d ms (once A G mode d d.own))

    call_pairs_to : (q r : List E) (s : Sides E) →
        call_pairs B (known_to f G) (map f q) (map f r) (sides_to f s) ≡ map (pair_to f) (call_pairs A G q r s)
    call_pairs_to q r s =
        (λ i. against_to q s.args i ++ against_to s.result r i)
        ∙ sym (map-append (pair_to f) (against A q s.args) (against A s.result r))

    each_to : (ws : List (Walk E)) (vs : List (Walk F)) → AllAgree f ws vs → (j : ℕ) (parts : List Part) (rs : List (List E)) (q : List E) (mode : Mode) (path : List ℕ) (hs : List (Hint E)) →
        each B (known_to f G) vs j parts (map (map f) rs) (map f q) mode path (map (hint_to f) hs) ≡ walked_to f (each A G ws j parts rs q mode path hs)
    each_to ws vs a j [] rs q mode path hs = refl
    each_to ws vs a j (part ∷ parts) rs q mode path hs =
        and_then_to f _ _ (λ left. each A G ws (suc j) parts rs q mode path left)
        (λ left. each B (known_to f G) vs (suc j) parts (map (map f) rs) (map f q) mode path left)
        ((λ i. slice_index_or vs part.degree still (mode_at j mode) (path ++ j ∷ []) (moved_to part.there q i) (get_or-map (map f) rs j [] i) (map (hint_to f) hs))
        ∙ agree_at f ws vs a part.degree (mode_at j mode) (path ++ j ∷ []) (moved A part.there q) (slice_index_or rs j []) hs)
        (λ left. each_to ws vs a (suc j) parts rs q mode path left)

    mutual
      unfolding AllAgree

      walk_to : (e : Plan) → Agree f (walk A G e) (walk B (known_to f G) e)
      walk_to (p.Ends n cells steps) mode path q r hs =
          begun_to n mode path q _ _ (λ i s. let k = charge G.scale mode Cells cells in
          ap (λ l. only (numbered path i l) (map (hint_to f) hs)) (ap (against B (map f s)) (ap (at_zero (B.plus (B.number k))) (all_moved_to steps r) ∙ raised_to k (all_moved A steps r))
          ∙ against_to s (at_zero (A.plus (A.number k)) (all_moved A steps r)))
          ∙ ap (λ l. only l (map (hint_to f) hs)) (numbered_to f path i (against A s (at_zero (A.plus (A.number k)) (all_moved A steps r)))))
      walk_to (p.Pays n ticks e) mode path q r hs =
          begun_to n mode path q _ _ (λ i s. let k = charge G.scale mode Ticks ticks in
          (λ j. behind (numbered path i ((at_to s 0 j, sym (c.number k) j) ∷ [])) (walk B (known_to f G) e mode (path ++ 0 ∷ []) (lowered_to k s j) (map f r) (map (hint_to f) hs)))
          ∙ ap (behind (numbered path i ((f (at A s 0), f (A.number k)) ∷ []))) (walk_to e mode (path ++ 0 ∷ []) (at_zero (A.less k) s) r hs)
          ∙ sym (behind_to f (numbered path i ((at A s 0, A.number k) ∷ [])) (walk A G e mode (path ++ 0 ∷ []) (at_zero (A.less k) s) r hs)))
      walk_to (p.Moves n step e) mode path q r hs =
          begun_to n mode path q _ _ (λ i s.
          ap (λ l. walk B (known_to f G) e mode (path ++ 0 ∷ []) l (map f r) (map (hint_to f) hs)) (moved_to step s)
          ∙ walk_to e mode (path ++ 0 ∷ []) (moved A step s) r hs)
      walk_to (p.Forks n step a step' b) mode path q r hs =
          begun_to n mode path q _ _ (λ i s. and_then_to f _ _ (λ left. walk A G b mode (path ++ 1 ∷ []) (moved A step' s) r left)
          (λ left. walk B (known_to f G) b mode (path ++ 1 ∷ []) (moved B step' (map f s)) (map f r) left)
          (ap (λ l. walk B (known_to f G) a mode (path ++ 0 ∷ []) l (map f r) (map (hint_to f) hs)) (moved_to step s)
          ∙ walk_to a mode (path ++ 0 ∷ []) (moved A step s) r hs)
          (λ left. ap (λ l. walk B (known_to f G) b mode (path ++ 1 ∷ []) l (map f r) (map (hint_to f) left)) (moved_to step' s)
          ∙ walk_to b mode (path ++ 1 ∷ []) (moved A step' s) r left))
      walk_to (p.Shares n size step e) mode path q r hs =
          begun_to n mode path q _ _ (λ i s.
          (λ j. behind (numbered path i (against B (map f s) (moved B step (copies_to f hs j)))) (walk B (known_to f G) e mode (path ++ 0 ∷ []) (copies_to f hs j) (map f r) (later_to f hs j)))
          ∙ (λ j. behind (numbered path i ((ap (against B (map f s)) (moved_to step (copies_of hs)) ∙ against_to s (moved A step (copies_of hs))) j)) (walk_to e mode (path ++ 0 ∷ []) (copies_of hs) r (later hs) j))
          ∙ ap (λ l. behind l (walked_to f (walk A G e mode (path ++ 0 ∷ []) (copies_of hs) r (later hs)))) (numbered_to f path i (against A s (moved A step (copies_of hs))))
          ∙ sym (behind_to f (numbered path i (against A s (moved A step (copies_of hs)))) (walk A G e mode (path ++ 0 ∷ []) (copies_of hs) r (later hs))))
      walk_to (p.Calls n d) mode path q r hs =
          let none = missing A G mode d d.own in let sum = sums A G mode d (multiples_of hs) in
          begun_to n mode path q _ _ (λ i s.
          (λ j. only (numbered path i (missing_to mode d d.own j ++ call_pairs B (known_to f G) (map f s) (map f r) (sums B (known_to f G) mode d (multiples_to f hs j)))) (later_to f hs j))
          ∙ (λ j. only (numbered path i (map (pair_to f) none ++ (ap (call_pairs B (known_to f G) (map f s) (map f r)) (sums_to mode d (multiples_of hs)) ∙ call_pairs_to s r sum) j)) (map (hint_to f) (later hs)))
          ∙ ap (λ l. only (numbered path i l) (map (hint_to f) (later hs))) (sym (map-append (pair_to f) none (call_pairs A G s r sum)))
          ∙ ap (λ l. only l (map (hint_to f) (later hs))) (numbered_to f path i (none ++ call_pairs A G s r sum)))
      walk_to (p.Lets n parts firsts size e) mode path q r hs =
          begun_to n mode path q _ _ (λ i s. and_then_to f _ _ (λ left. walk A G e mode (path ++ length parts ∷ []) (joined A (nothing A size) 0 parts (results_of hs)) r left)
          (λ left. walk B (known_to f G) e mode (path ++ length parts ∷ []) (joined B (nothing B size) 0 parts (results_of (map (hint_to f) hs))) (map f r) left)
          ((λ j. each B (known_to f G) (walks B (known_to f G) firsts) 0 parts (results_to f hs j) (map f s) mode path (later_to f hs j))
          ∙ each_to (walks A G firsts) (walks B (known_to f G) firsts) (walks_to firsts) 0 parts (results_of hs) s mode path (later hs))
          (λ left. ap (λ l. walk B (known_to f G) e mode (path ++ length parts ∷ []) l (map f r) (map (hint_to f) left))
          ((λ j. joined B (nothing_to size j) 0 parts (results_to f hs j)) ∙ joined_to (nothing A size) 0 parts (results_of hs))
          ∙ walk_to e mode (path ++ length parts ∷ []) (joined A (nothing A size) 0 parts (results_of hs)) r left))

      walks_to : (es : p.Plans) → AllAgree f (walks A G es) (walks B (known_to f G) es)
      walks_to p.NoPlans = tt
      walks_to (p.More e es) = (walk_to e, walks_to es)

pub walks_carry : {E F : Type 0} (A : Numbers E) (B : Numbers F) (f : E → F) → Carries A B f → WalksCarry A B f
walks_carry A B f c = walk_to A B f c
