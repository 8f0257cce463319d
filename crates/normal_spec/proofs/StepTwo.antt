-- The forms of step two evaluate as those of step one.
use Rattle.std.proofs.Common.{◌≡◌, ◌≤◌, ◌<◌, ◌+◌, ℕ, List, [], ◌∷◌, ◌++◌, Bool, true, false, cond, refl, sym, ap, ◌∙◌, arith}
use Rattle.std.proofs.lemmas.Bool.{or_left, or_right, and_from, not_from_false, or_from}
use Rattle.std.specs.Prelude.{nat_eq, ◌||◌}
use Rattle.raml_syntax.specs.Value.{Value, Both, Empty, Cons, Node, Just}
use Rattle.raml_syntax.specs.Eval.{Run, done, cut, costs, and_then, new_cell, arith as calculate, compare, negation, branch, pair_case, list_case, tree_case, option_case}
use Rattle.normal_spec.specs.Norm as n
use Rattle.normal_spec.specs.Run.{NormEnv, values_at, NormCalls, spend, walk_norm}
use Rattle.normal_spec.specs.Levels.{Levels}
use Rattle.normal_spec.specs.Two.{among, free_in, Slots, slot, copy_of, put, used, unused, take_slot, take_all, part, of_one, of_two, of_three, over, around, two}
use Rattle.normal_spec.proofs.StepOne.{same_number}
use Rattle.normal_spec.proofs.Weights.{AllLow, low_more, low_append, low_put, low_used}
use Rattle.normal_spec.proofs.Copies.{put_new, append_new, used_copy, At, at_more, at_is, at_bound, swap, after_shares, shares_walk, drops_walk, took, took_all, halves}

-- the free variables of a form have variables that stand for them
pub record Agrees (o : n.Norm) (G : Slots) (k : ℕ) (e f : NormEnv) : Type 0 where
  pub at : (y : ℕ) → free_in y o ≡ true → At k y (copy_of y G) e f

-- one, two and three variables that are bound in place of a slot
one_put : (j k y x p c : ℕ) (H G : Slots) (v : Value) (e f : NormEnv) → AllLow j G → j ≤ p → k ≤ c → (nat_eq y p ≡ false → At k y (copy_of y (put x H G)) e f) → At (c + 1) y (copy_of y (put x (slot p c ∷ H) G)) ((p, v) ∷ e) ((c, v) ∷ f)
one_put j k y x p c H G v e f below le grows h =
    at_is (c + 1) y _ _ _ _ (put_new j x y p c H G below le) (at_bound k c y p _ v e f grows h)

two_put : (j k y x p q c : ℕ) (H G : Slots) (v w : Value) (e f : NormEnv) → AllLow j G → j ≤ p → p < q → k ≤ c → (nat_eq y p ≡ false → nat_eq y q ≡ false → At k y (copy_of y (put x H G)) e f) → At (c + 2) y (copy_of y (put x (slot p c ∷ slot q (c + 1) ∷ H) G)) ((q, w) ∷ (p, v) ∷ e) ((c + 1, w) ∷ (c, v) ∷ f)
two_put j k y x p q c H G v w e f below le lt grows h =
    let z = copy_of y (put x H G) in
    at_more (c + 1 + 1) (c + 2) y _ _ _ (omega arith)
    (at_is (c + 1 + 1) y _ _ _ _
    (put_new j x y p c (slot q (c + 1) ∷ H) G below le ∙ ap (λ u. cond (nat_eq y p) c u) (put_new j x y q (c + 1) H G below (omega arith)) ∙ swap y p q c (c + 1) z lt)
    (at_bound (c + 1) (c + 1) y q _ w ((p, v) ∷ e) ((c, v) ∷ f) (omega arith) (λ hq. at_bound k c y p z v e f grows (λ hp. h hp hq))))

three_put : (j k y x p q r c : ℕ) (H G : Slots) (u v w : Value) (e f : NormEnv) → AllLow j G → j ≤ p → p < q → q < r → k ≤ c → (nat_eq y p ≡ false → nat_eq y q ≡ false → nat_eq y r ≡ false → At k y (copy_of y (put x H G)) e f) → At (c + 3) y (copy_of y (put x (slot p c ∷ slot q (c + 1) ∷ slot r (c + 2) ∷ H) G)) ((r, w) ∷ (q, v) ∷ (p, u) ∷ e) ((c + 2, w) ∷ (c + 1, v) ∷ (c, u) ∷ f)
three_put j k y x p q r c H G u v w e f below le pq qr grows h =
    let z = copy_of y (put x H G) in
    at_more (c + 2 + 1) (c + 3) y _ _ _ (omega arith)
    (at_is (c + 2 + 1) y _ _ _ _
    (put_new j x y p c (slot q (c + 1) ∷ slot r (c + 2) ∷ H) G below le
    ∙ ap (λ i. cond (nat_eq y p) c i) (put_new j x y q (c + 1) (slot r (c + 2) ∷ H) G below (omega arith) ∙ ap (λ i. cond (nat_eq y q) (c + 1) i) (put_new j x y r (c + 2) H G below (omega arith)) ∙ swap y q r (c + 1) (c + 2) z qr)
    ∙ swap y p r c (c + 2) (cond (nat_eq y q) (c + 1) z) (omega arith)
    ∙ ap (λ i. cond (nat_eq y r) (c + 2) i) (swap y p q c (c + 1) z pq))
    (at_bound (c + 2) (c + 2) y r _ w ((q, v) ∷ (p, u) ∷ e) ((c + 1, v) ∷ (c, u) ∷ f) (omega arith)
    (λ hr. at_more (c + 1 + 1) (c + 2) y _ _ _ (omega arith)
    (at_bound (c + 1) (c + 1) y q _ v ((p, u) ∷ e) ((c, u) ∷ f) (omega arith) (λ hq. at_bound k c y p z u e f grows (λ hp. h hp hq hr))))))

pub take_grows : (b : Bool) (x : ℕ) (G : Slots) (k : ℕ) → k ≤ (take_slot b x G k).1
take_grows false x G k = omega arith
take_grows true x G k = omega arith

pub takes_grow : (xs : List ℕ) (G : Slots) (k : ℕ) → k ≤ (take_all xs G k).1
takes_grow [] G k = omega arith
takes_grow (x ∷ xs) G k =
    let t = take_slot (among x xs) x G k in
    omega (arith, take_grows (among x xs) x G k, takes_grow xs (put x t.0.stay G) t.1)

over_grows : (f : List ℕ → n.Norm) (xs : List ℕ) (G : Slots) (k : ℕ) → k ≤ (over f xs G k).1
over_grows f xs G k = takes_grow xs G k

pub part_grows : (a b : n.Norm) (G : Slots) (k : ℕ) → k ≤ (part a b G k).1
part_grows a b G k = (halves a b G k [] []).grows

-- new numbers do not fall
pub two_grows : (o : n.Norm) (G : Slots) (k : ℕ) → k ≤ (two o G k).1
two_grows (n.Var i x) G k = over_grows (of_one (n.Var i)) (x ∷ []) G k
two_grows (n.Number i v) G k = omega arith
two_grows (n.Truth i b) G k = omega arith
two_grows (n.Nil i) G k = omega arith
two_grows (n.Leaf i) G k = omega arith
two_grows (n.Nothing i) G k = omega arith
two_grows (n.Arith i op x y) G k = over_grows (of_two (n.Arith i op)) (x ∷ y ∷ []) G k
two_grows (n.Compare i op x y) G k = over_grows (of_two (n.Compare i op)) (x ∷ y ∷ []) G k
two_grows (n.Not i x) G k = over_grows (of_one (n.Not i)) (x ∷ []) G k
two_grows (n.Pair i x y) G k = over_grows (of_two (n.Pair i)) (x ∷ y ∷ []) G k
two_grows (n.Cons i x y) G k = over_grows (of_two (n.Cons i)) (x ∷ y ∷ []) G k
two_grows (n.Node i x y z) G k = over_grows (of_three (n.Node i)) (x ∷ y ∷ z ∷ []) G k
two_grows (n.Just i x) G k = over_grows (of_one (n.Just i)) (x ∷ []) G k
two_grows (n.Call i f xs) G k = over_grows (n.Call i f) xs G k
two_grows (n.Let i x A a b) G k =
    let d = part a b G k in
    let ra = two a (used a d.0.first) (d.1 + 1) in
    omega (arith, part_grows a b G k, two_grows a (used a d.0.first) (d.1 + 1), two_grows b (used b (d.0.second ++ slot x d.1 ∷ [])) ra.1)
two_grows (n.Split i x p q a) G k =
    let t = take_slot (free_in x a) x G k in
    omega (arith, take_grows (free_in x a) x G k, two_grows a (used a (put x (slot p t.1 ∷ slot q (t.1 + 1) ∷ t.0.stay) G)) (t.1 + 2))
two_grows (n.If i x a b) G k =
    let t = take_slot (free_in x a || free_in x b) x G k in
    let ra = two a (used a (put x t.0.stay G)) t.1 in
    omega (arith, take_grows (free_in x a || free_in x b) x G k, two_grows a (used a (put x t.0.stay G)) t.1, two_grows b (used b (put x t.0.stay G)) ra.1)
two_grows (n.CaseList i x a h l b) G k =
    let t = take_slot (free_in x a || free_in x b) x G k in
    let ra = two a (used a (put x t.0.stay G)) (t.1 + 2) in
    omega (arith, take_grows (free_in x a || free_in x b) x G k, two_grows a (used a (put x t.0.stay G)) (t.1 + 2), two_grows b (used b (put x (slot h t.1 ∷ slot l (t.1 + 1) ∷ t.0.stay) G)) ra.1)
two_grows (n.CaseTree i x a h l r b) G k =
    let t = take_slot (free_in x a || free_in x b) x G k in
    let ra = two a (used a (put x t.0.stay G)) (t.1 + 3) in
    omega (arith, take_grows (free_in x a || free_in x b) x G k, two_grows a (used a (put x t.0.stay G)) (t.1 + 3), two_grows b (used b (put x (slot h t.1 ∷ slot l (t.1 + 1) ∷ slot r (t.1 + 2) ∷ t.0.stay) G)) ra.1)
two_grows (n.CaseOption i x a w b) G k =
    let t = take_slot (free_in x a || free_in x b) x G k in
    let ra = two a (used a (put x t.0.stay G)) (t.1 + 1) in
    omega (arith, take_grows (free_in x a || free_in x b) x G k, two_grows a (used a (put x t.0.stay G)) (t.1 + 1), two_grows b (used b (put x (slot w t.1 ∷ t.0.stay) G)) ra.1)
two_grows (n.Tick i j a) G k = two_grows a G k
two_grows (n.Share i x p q a) G k = omega arith
two_grows (n.Drop i x a) G k = omega arith

below_stay : (b : Bool) (j x : ℕ) (G : Slots) (k : ℕ) → x < j → AllLow j (take_slot b x G k).0.stay
below_stay false j x G k lt = tt
below_stay true j x G k lt = (lt, tt)

abbrev first_value : List Value → Value
first_value [] = Empty
first_value (v ∷ vs) = v

abbrev second_value : List Value → Value
second_value [] = Empty
second_value (v ∷ vs) = first_value vs

abbrev third_value : List Value → Value
third_value [] = Empty
third_value (v ∷ vs) = second_value vs

module _ (d : NormCalls) where
  -- a form over operands
  over_walks : (m : List ℕ → n.Norm) (run : List Value → Run Value) (xs : List ℕ) (G : Slots) (k : ℕ) (e f : NormEnv) → ((g : NormEnv) → walk_norm d (m (take_all xs G k).0.names) g ≡ run (values_at (take_all xs G k).0.names g)) → ((y : ℕ) → among y xs ≡ true → At k y (copy_of y G) e f) → walk_norm d (over m xs G k).0 f ≡ run (values_at xs e)
  over_walks m run xs G k e f is h =
      let a = took_all xs G k e f h in
      shares_walk d (take_all xs G k).0.shares (m (take_all xs G k).0.names) f ∙ is (after_shares (take_all xs G k).0.shares f) ∙ ap run a.values

  abbrev pub Walks : n.Norm → Type 0
  Walks o = (j : ℕ) (G : Slots) (k : ℕ) (e f : NormEnv) → Levels j o → AllLow j G → Agrees o G k e f → walk_norm d (two o G k).0 f ≡ walk_norm d o e

  pub around_walks : (o : n.Norm) → Walks o → (j : ℕ) (G : Slots) (k : ℕ) (e f : NormEnv) → Levels j o → AllLow j G → Agrees o G k e f → walk_norm d (around o (two o) G k).0 f ≡ walk_norm d o e
  around_walks o walks j G k e f levels below agrees =
      drops_walk d (unused o G) (two o (used o G) k).0 f
      ∙ walks j (used o G) k e f levels (low_used j o G below) (record { at = λ y h. at_is k y _ _ e f (used_copy o G y h) (agrees.at y h) })

  pub two_walks : (o : n.Norm) → Walks o
  two_walks (n.Var i x) j G k e f lv below ag = over_walks (of_one (n.Var i)) (λ vs. spend i (done (first_value vs))) (x ∷ []) G k e f (λ g. refl) ag.at
  two_walks (n.Number i v) j G k e f lv below ag = refl
  two_walks (n.Truth i b) j G k e f lv below ag = refl
  two_walks (n.Nil i) j G k e f lv below ag = refl
  two_walks (n.Leaf i) j G k e f lv below ag = refl
  two_walks (n.Nothing i) j G k e f lv below ag = refl
  two_walks (n.Arith i op x y) j G k e f lv below ag = over_walks (of_two (n.Arith i op)) (λ vs. spend i (done (calculate op (first_value vs) (second_value vs)))) (x ∷ y ∷ []) G k e f (λ g. refl) ag.at
  two_walks (n.Compare i op x y) j G k e f lv below ag = over_walks (of_two (n.Compare i op)) (λ vs. spend i (done (compare op (first_value vs) (second_value vs)))) (x ∷ y ∷ []) G k e f (λ g. refl) ag.at
  two_walks (n.Not i x) j G k e f lv below ag = over_walks (of_one (n.Not i)) (λ vs. spend i (done (negation (first_value vs)))) (x ∷ []) G k e f (λ g. refl) ag.at
  two_walks (n.Pair i x y) j G k e f lv below ag = over_walks (of_two (n.Pair i)) (λ vs. spend i (new_cell (Both (first_value vs) (second_value vs)))) (x ∷ y ∷ []) G k e f (λ g. refl) ag.at
  two_walks (n.Cons i x y) j G k e f lv below ag = over_walks (of_two (n.Cons i)) (λ vs. spend i (new_cell (Cons (first_value vs) (second_value vs)))) (x ∷ y ∷ []) G k e f (λ g. refl) ag.at
  two_walks (n.Node i x y z) j G k e f lv below ag = over_walks (of_three (n.Node i)) (λ vs. spend i (new_cell (Node (first_value vs) (second_value vs) (third_value vs)))) (x ∷ y ∷ z ∷ []) G k e f (λ g. refl) ag.at
  two_walks (n.Just i x) j G k e f lv below ag = over_walks (of_one (n.Just i)) (λ vs. spend i (new_cell (Just (first_value vs)))) (x ∷ []) G k e f (λ g. refl) ag.at
  two_walks (n.Call i g xs) j G k e f lv below ag = over_walks (n.Call i g) (λ vs. spend i (d g vs)) xs G k e f (λ g. refl) ag.at
  two_walks (n.Let i x A a b) j G k e f lv below ag =
      let r = part a b G k in
      let g = after_shares r.0.shares f in
      let h = halves a b G k e f in
      let ra = around a (two a) r.0.first (r.1 + 1) in
      let first = around_walks a (two_walks a) j r.0.first (r.1 + 1) e g lv.1 (h.below_first j below)
      (record { at = λ y m. at_more r.1 (r.1 + 1) y _ e g (omega arith) (h.first y m (ag.at y (or_left (free_in y a) _ m))) }) in
      let second : (v : Value) → walk_norm d (around b (two b) (r.0.second ++ slot x r.1 ∷ []) ra.1).0 ((r.1, v) ∷ g) ≡ walk_norm d b ((x, v) ∷ e) =
      λ v. around_walks b (two_walks b) (x + 1) (r.0.second ++ slot x r.1 ∷ []) ra.1 ((x, v) ∷ e) ((r.1, v) ∷ g) lv.2
      (low_append (x + 1) r.0.second (slot x r.1 ∷ []) (low_more j (x + 1) r.0.second (omega (arith, lv.0)) (h.below_second j below)) (omega arith, tt))
      (record {
        at = λ y m.
            at_more (r.1 + 1) ra.1 y _ _ _ (two_grows a (used a r.0.first) (r.1 + 1))
            (at_is (r.1 + 1) y _ _ _ _ (append_new j y x r.1 r.0.second (h.below_second j below) lv.0)
            (at_bound r.1 r.1 y x _ v e g (omega arith) (λ ne. h.second y m (ag.at y (or_right (free_in y a) _ (and_from _ _ (not_from_false _ ne) m))))));
      }) in
      shares_walk d r.0.shares (n.Let i r.1 A ra.0 (around b (two b) (r.0.second ++ slot x r.1 ∷ []) ra.1).0) f
      ∙ (λ z. spend i (and_then (first z) (λ v. second v z)))
  two_walks (n.Split i x p q a) j G k e f lv below ag =
      let again = free_in x a in
      let t = take_slot again x G k in
      let g = after_shares t.0.shares f in
      let c = t.1 in
      let tk = took again x G k e f (ag.at x (or_left (nat_eq x x) _ (same_number x))) in
      let H = put x (slot p c ∷ slot q (c + 1) ∷ t.0.stay) G in
      let inner : (v w : Value) → walk_norm d (around a (two a) H (c + 2)).0 ((c + 1, w) ∷ (c, v) ∷ g) ≡ walk_norm d a ((q, w) ∷ (p, v) ∷ e) =
      λ v w. around_walks a (two_walks a) (q + 1) H (c + 2) ((q, w) ∷ (p, v) ∷ e) ((c + 1, w) ∷ (c, v) ∷ g) lv.3
      (low_put (q + 1) x (slot p c ∷ slot q (c + 1) ∷ t.0.stay) G (omega (arith, lv.2), (omega arith, below_stay again (q + 1) x G k (omega (arith, lv.0, lv.1, lv.2)))) (low_more j (q + 1) G (omega (arith, lv.1, lv.2)) below))
      (record {
        at = λ y m. two_put j c y x p q c t.0.stay G v w e g below lv.1 lv.2 (omega arith)
            (λ hp hq. tk.others y (λ s. ap (λ z. free_in z a) (sym s) ∙ m) (ag.at y (or_right (nat_eq y x) _ (and_from _ _ (not_from_false _ (or_from _ _ hp hq)) m))));
      }) in
      shares_walk d t.0.shares (n.Split i t.0.name c (c + 1) (around a (two a) H (c + 2)).0) f
      ∙ (λ z. spend i (pair_case (tk.value z) cut (λ v w. inner v w z)))
  two_walks (n.If i x a b) j G k e f lv below ag =
      let again = free_in x a || free_in x b in
      let t = take_slot again x G k in
      let g = after_shares t.0.shares f in
      let tk = took again x G k e f (ag.at x (or_left (nat_eq x x) _ (same_number x))) in
      let H = put x t.0.stay G in
      let ra = around a (two a) H t.1 in
      let low = low_put j x t.0.stay G (below_stay again j x G k lv.0) below in
      let first = around_walks a (two_walks a) j H t.1 e g lv.1 low
      (record { at = λ y m. tk.others y (λ s. or_left _ (free_in x b) (ap (λ z. free_in z a) (sym s) ∙ m)) (ag.at y (or_right (nat_eq y x) _ (or_left _ (free_in y b) m))) }) in
      let second = around_walks b (two_walks b) j H ra.1 e g lv.2 low
      (record { at = λ y m. at_more t.1 ra.1 y _ e g (two_grows a (used a H) t.1) (tk.others y (λ s. or_right (free_in x a) _ (ap (λ z. free_in z b) (sym s) ∙ m)) (ag.at y (or_right (nat_eq y x) _ (or_right (free_in y a) _ m)))) }) in
      shares_walk d t.0.shares (n.If i t.0.name ra.0 (around b (two b) H ra.1).0) f
      ∙ (λ z. spend i (branch (tk.value z) (first z) (second z)))
  two_walks (n.CaseList i x a h l b) j G k e f lv below ag =
      let again = free_in x a || free_in x b in
      let t = take_slot again x G k in
      let g = after_shares t.0.shares f in
      let c = t.1 in
      let tk = took again x G k e f (ag.at x (or_left (nat_eq x x) _ (same_number x))) in
      let H = put x t.0.stay G in
      let I = put x (slot h c ∷ slot l (c + 1) ∷ t.0.stay) G in
      let ra = around a (two a) H (c + 2) in
      let first = around_walks a (two_walks a) j H (c + 2) e g lv.1 (low_put j x t.0.stay G (below_stay again j x G k lv.0) below)
      (record { at = λ y m. at_more c (c + 2) y _ e g (omega arith) (tk.others y (λ s. or_left _ (free_in x b) (ap (λ z. free_in z a) (sym s) ∙ m)) (ag.at y (or_right (nat_eq y x) _ (or_left _ _ m)))) }) in
      let second : (v w : Value) → walk_norm d (around b (two b) I ra.1).0 ((c + 1, w) ∷ (c, v) ∷ g) ≡ walk_norm d b ((l, w) ∷ (h, v) ∷ e) =
      λ v w. around_walks b (two_walks b) (l + 1) I ra.1 ((l, w) ∷ (h, v) ∷ e) ((c + 1, w) ∷ (c, v) ∷ g) lv.4
      (low_put (l + 1) x (slot h c ∷ slot l (c + 1) ∷ t.0.stay) G (omega (arith, lv.3), (omega arith, below_stay again (l + 1) x G k (omega (arith, lv.0, lv.2, lv.3)))) (low_more j (l + 1) G (omega (arith, lv.2, lv.3)) below))
      (record {
        at = λ y m. at_more (c + 2) ra.1 y _ _ _ (two_grows a (used a H) (c + 2)) (two_put j c y x h l c t.0.stay G v w e g below lv.2 lv.3 (omega arith)
            (λ hp hq. tk.others y (λ s. or_right (free_in x a) _ (ap (λ z. free_in z b) (sym s) ∙ m)) (ag.at y (or_right (nat_eq y x) _ (or_right (free_in y a) _ (and_from _ _ (not_from_false _ (or_from _ _ hp hq)) m))))));
      }) in
      shares_walk d t.0.shares (n.CaseList i t.0.name ra.0 c (c + 1) (around b (two b) I ra.1).0) f
      ∙ (λ z. spend i (list_case (tk.value z) (first z) (λ v w. second v w z)))
  two_walks (n.CaseTree i x a h l r b) j G k e f lv below ag =
      let again = free_in x a || free_in x b in
      let t = take_slot again x G k in
      let g = after_shares t.0.shares f in
      let c = t.1 in
      let tk = took again x G k e f (ag.at x (or_left (nat_eq x x) _ (same_number x))) in
      let H = put x t.0.stay G in
      let I = put x (slot h c ∷ slot l (c + 1) ∷ slot r (c + 2) ∷ t.0.stay) G in
      let ra = around a (two a) H (c + 3) in
      let first = around_walks a (two_walks a) j H (c + 3) e g lv.1 (low_put j x t.0.stay G (below_stay again j x G k lv.0) below)
      (record { at = λ y m. at_more c (c + 3) y _ e g (omega arith) (tk.others y (λ s. or_left _ (free_in x b) (ap (λ z. free_in z a) (sym s) ∙ m)) (ag.at y (or_right (nat_eq y x) _ (or_left _ _ m)))) }) in
      let second : (u v w : Value) → walk_norm d (around b (two b) I ra.1).0 ((c + 2, w) ∷ (c + 1, v) ∷ (c, u) ∷ g) ≡ walk_norm d b ((r, w) ∷ (l, v) ∷ (h, u) ∷ e) =
      λ u v w. around_walks b (two_walks b) (r + 1) I ra.1 ((r, w) ∷ (l, v) ∷ (h, u) ∷ e) ((c + 2, w) ∷ (c + 1, v) ∷ (c, u) ∷ g) lv.5
      (low_put (r + 1) x (slot h c ∷ slot l (c + 1) ∷ slot r (c + 2) ∷ t.0.stay) G (omega (arith, lv.3, lv.4), (omega (arith, lv.4), (omega arith, below_stay again (r + 1) x G k (omega (arith, lv.0, lv.2, lv.3, lv.4))))) (low_more j (r + 1) G (omega (arith, lv.2, lv.3, lv.4)) below))
      (record {
        at = λ y m. at_more (c + 3) ra.1 y _ _ _ (two_grows a (used a H) (c + 3)) (three_put j c y x h l r c t.0.stay G u v w e g below lv.2 lv.3 lv.4 (omega arith)
            (λ hp hq hr. tk.others y (λ s. or_right (free_in x a) _ (ap (λ z. free_in z b) (sym s) ∙ m)) (ag.at y (or_right (nat_eq y x) _ (or_right (free_in y a) _ (and_from _ _ (not_from_false _ (or_from _ _ hp (or_from _ _ hq hr))) m))))));
      }) in
      shares_walk d t.0.shares (n.CaseTree i t.0.name ra.0 c (c + 1) (c + 2) (around b (two b) I ra.1).0) f
      ∙ (λ z. spend i (tree_case (tk.value z) (first z) (λ u v w. second u v w z)))
  two_walks (n.CaseOption i x a h b) j G k e f lv below ag =
      let again = free_in x a || free_in x b in
      let t = take_slot again x G k in
      let g = after_shares t.0.shares f in
      let c = t.1 in
      let tk = took again x G k e f (ag.at x (or_left (nat_eq x x) _ (same_number x))) in
      let H = put x t.0.stay G in
      let I = put x (slot h c ∷ t.0.stay) G in
      let ra = around a (two a) H (c + 1) in
      let first = around_walks a (two_walks a) j H (c + 1) e g lv.1 (low_put j x t.0.stay G (below_stay again j x G k lv.0) below)
      (record { at = λ y m. at_more c (c + 1) y _ e g (omega arith) (tk.others y (λ s. or_left _ (free_in x b) (ap (λ z. free_in z a) (sym s) ∙ m)) (ag.at y (or_right (nat_eq y x) _ (or_left _ _ m)))) }) in
      let second : (v : Value) → walk_norm d (around b (two b) I ra.1).0 ((c, v) ∷ g) ≡ walk_norm d b ((h, v) ∷ e) =
      λ v. around_walks b (two_walks b) (h + 1) I ra.1 ((h, v) ∷ e) ((c, v) ∷ g) lv.3
      (low_put (h + 1) x (slot h c ∷ t.0.stay) G (omega arith, below_stay again (h + 1) x G k (omega (arith, lv.0, lv.2))) (low_more j (h + 1) G (omega (arith, lv.2)) below))
      (record {
        at = λ y m. at_more (c + 1) ra.1 y _ _ _ (two_grows a (used a H) (c + 1)) (one_put j c y x h c t.0.stay G v e g below lv.2 (omega arith)
            (λ hp. tk.others y (λ s. or_right (free_in x a) _ (ap (λ z. free_in z b) (sym s) ∙ m)) (ag.at y (or_right (nat_eq y x) _ (or_right (free_in y a) _ (and_from _ _ (not_from_false _ hp) m))))));
      }) in
      shares_walk d t.0.shares (n.CaseOption i t.0.name ra.0 c (around b (two b) I ra.1).0) f
      ∙ (λ z. spend i (option_case (tk.value z) (first z) (λ v. second v z)))
  two_walks (n.Tick i m a) j G k e f lv below ag = λ z. spend i (costs m 0 0 (two_walks a j G k e f lv below (record { at = ag.at }) z))
  two_walks (n.Share i x p q a) j G k e f lv below ag = absurd lv
  two_walks (n.Drop i x a) j G k e f lv below ag = absurd lv
