-- In the forms of step two each variable is bound once.
use Rattle.std.proofs.Common.{◌≡◌, ◌≤◌, ◌<◌, ◌+◌, ℕ, List, [], ◌∷◌, ◌++◌, length, Bool, true, false, cond, refl, sym, ap, subst, ⊎_elim, arith}
use Rattle.std.proofs.lemmas.Bool.{cases_lt}
use Rattle.std.specs.Prelude.{nat_eq, ◌||◌}
use Rattle.raml_syntax.specs.Tree.{Parameter}
use Rattle.normal_spec.specs.Norm as n
use Rattle.normal_spec.specs.Levels.{Levels}
use Rattle.normal_spec.specs.One.{numbered}
use Rattle.normal_spec.specs.Two.{Shared, among, free_in, put, used, unused, Slots, slot, drop_all, share_all, take_slot, take_all, part, to_first, to_second, to_both, of_one, of_two, of_three, over, around, two}
use Rattle.normal_spec.specs.Uses.{once, binds, times}
use Rattle.normal_spec.proofs.StepOne.{other_number}
use Rattle.normal_spec.proofs.StepTwo.{take_grows, takes_grow, part_grows, two_grows}

-- a number of times, which is 0 but from k to below i, and 1 at most
pub record InRange (c k i t : ℕ) : Type 0 where
  pub below : c < k → t ≡ 0
  pub above : i ≤ c → t ≡ 0
  pub most : t ≤ 1

range_none : (c k : ℕ) → InRange c k k 0
range_none c k = record { below = λ h. refl; above = λ h. refl; most = omega arith }

range_once : (c k : ℕ) → InRange c k (k + 1) (once c k)
range_once c k = record { below = λ h. other (λ q. omega arith); above = λ h. other (λ q. omega arith); most = by (nat_eq c k) }
  where
    other : (c ≡ k → ⊥) → once c k ≡ 0
    other h = ap (λ b. cond b 1 0) (other_number c k h)

    by : (b : Bool) → cond b 1 0 ≤ 1
    by true = omega arith
    by false = omega arith

pub range_join : (c k i j s t : ℕ) → k ≤ i → i ≤ j → InRange c k i s → InRange c i j t → InRange c k j (s + t)
range_join c k i j s t ki ij h g = record {
  below = λ lt. let a = h.below lt in let b = g.below (omega arith) in omega arith;
  above = λ le. let a = h.above (omega arith) in let b = g.above le in omega arith;
  most = ⊎_elim (λ lt. let b = g.below lt in omega (arith, h.most)) (λ le. let a = h.above le in omega (arith, g.most)) (cases_lt c i);
}

range_is : (c k i s t : ℕ) → s ≡ t → InRange c k i s → InRange c k i t
range_is c k i s t q h = subst (InRange c k i) q h

range_two : (c k : ℕ) → InRange c k (k + 2) (once c k + once c (k + 1))
range_two c k =
    let r = range_join c k (k + 1) (k + 1 + 1) (once c k) (once c (k + 1)) (omega arith) (omega arith) (range_once c k) (range_once c (k + 1)) in
    record { below = r.below; above = λ le. r.above (omega arith); most = r.most }

range_three : (c k : ℕ) → InRange c k (k + 3) (once c k + once c (k + 1) + once c (k + 2))
range_three c k =
    let r = range_join c k (k + 2) (k + 2 + 1) (once c k + once c (k + 1)) (once c (k + 2)) (omega arith) (omega arith) (range_two c k) (range_once c (k + 2)) in
    record { below = r.below; above = λ le. r.above (omega arith); most = r.most }

abbrev shared : ℕ → List Shared → ℕ
shared c [] = 0
shared c (s ∷ ss) = once c s.first + once c s.second + shared c ss

shares_bind : (c : ℕ) (ss : List Shared) (m : n.Norm) → binds c (share_all ss m) ≡ shared c ss + binds c m
shares_bind c [] m = omega arith
shares_bind c (s ∷ ss) m = omega (arith, shares_bind c ss m)

shared_append : (c : ℕ) (ss us : List Shared) → shared c (ss ++ us) ≡ shared c ss + shared c us
shared_append c [] us = omega arith
shared_append c (s ∷ ss) us = omega (arith, shared_append c ss us)

drops_bind : (c : ℕ) (G : Slots) (m : n.Norm) → binds c (drop_all G m) ≡ binds c m
drops_bind c [] m = refl
drops_bind c (s ∷ G) m = drops_bind c G m

take_range : (c : ℕ) (b : Bool) (x : ℕ) (G : Slots) (k : ℕ) → InRange c k (take_slot b x G k).1 (shared c (take_slot b x G k).0.shares)
take_range c false x G k = range_none c k
take_range c true x G k = range_is c k (k + 2) (once c k + once c (k + 1)) _ (omega arith) (range_two c k)

takes_range : (c : ℕ) (xs : List ℕ) (G : Slots) (k : ℕ) → InRange c k (take_all xs G k).1 (shared c (take_all xs G k).0.shares)
takes_range c [] G k = range_none c k
takes_range c (x ∷ xs) G k =
    let t = take_slot (among x xs) x G k in
    let r = take_all xs (put x t.0.stay G) t.1 in
    range_is c k r.1 (shared c t.0.shares + shared c r.0.shares) _ (sym (shared_append c t.0.shares r.0.shares))
    (range_join c k t.1 r.1 _ _ (take_grows (among x xs) x G k) (takes_grow xs (put x t.0.stay G) t.1) (take_range c (among x xs) x G k) (takes_range c xs (put x t.0.stay G) t.1))

part_range : (c : ℕ) (a b : n.Norm) (G : Slots) (k : ℕ) → InRange c k (part a b G k).1 (shared c (part a b G k).0.shares)
part_range c a b [] k = range_none c k
part_range c a b (s ∷ G) k = by (free_in s.0 a) (free_in s.0 b) (part_range c a b G k) (part_range c a b G (k + 2))
  where
    by : (fa fb : Bool) → InRange c k (part a b G k).1 (shared c (part a b G k).0.shares) → InRange c (k + 2) (part a b G (k + 2)).1 (shared c (part a b G (k + 2)).0.shares) →
        InRange c k (cond fa (cond fb (to_both s k (part a b G (k + 2))) (to_first s (part a b G k))) (to_second s (part a b G k))).1 (shared c (cond fa (cond fb (to_both s k (part a b G (k + 2))) (to_first s (part a b G k))) (to_second s (part a b G k))).0.shares)
    by true true plain two = range_join c k (k + 2) (part a b G (k + 2)).1 _ _ (omega arith) (part_grows a b G (k + 2)) (range_two c k) two
    by true false plain two = plain
    by false fb plain two = plain

over_range : (c : ℕ) (f : List ℕ → n.Norm) (xs : List ℕ) (G : Slots) (k : ℕ) → binds c (f (take_all xs G k).0.names) ≡ 0 → InRange c k (over f xs G k).1 (binds c (over f xs G k).0)
over_range c f xs G k h = range_is c k (take_all xs G k).1 _ _ (let e = shares_bind c (take_all xs G k).0.shares (f (take_all xs G k).0.names) in omega arith) (takes_range c xs G k)

pub two_range : (c : ℕ) (o : n.Norm) (j : ℕ) (G : Slots) (k : ℕ) → Levels j o → InRange c k (two o G k).1 (binds c (two o G k).0)
two_range c (n.Var i x) j G k lv = over_range c (of_one (n.Var i)) (x ∷ []) G k refl
two_range c (n.Number i v) j G k lv = range_none c k
two_range c (n.Truth i b) j G k lv = range_none c k
two_range c (n.Nil i) j G k lv = range_none c k
two_range c (n.Leaf i) j G k lv = range_none c k
two_range c (n.Nothing i) j G k lv = range_none c k
two_range c (n.Arith i op x y) j G k lv = over_range c (of_two (n.Arith i op)) (x ∷ y ∷ []) G k refl
two_range c (n.Compare i op x y) j G k lv = over_range c (of_two (n.Compare i op)) (x ∷ y ∷ []) G k refl
two_range c (n.Not i x) j G k lv = over_range c (of_one (n.Not i)) (x ∷ []) G k refl
two_range c (n.Pair i x y) j G k lv = over_range c (of_two (n.Pair i)) (x ∷ y ∷ []) G k refl
two_range c (n.Cons i x y) j G k lv = over_range c (of_two (n.Cons i)) (x ∷ y ∷ []) G k refl
two_range c (n.Node i x y z) j G k lv = over_range c (of_three (n.Node i)) (x ∷ y ∷ z ∷ []) G k refl
two_range c (n.Just i x) j G k lv = over_range c (of_one (n.Just i)) (x ∷ []) G k refl
two_range c (n.Call i f xs) j G k lv = over_range c (n.Call i f) xs G k refl
two_range c (n.Let i x A a b) j G k lv =
    let d = part a b G k in
    let v = d.1 in
    let Fa = used a d.0.first in
    let ra = two a Fa (v + 1) in
    let Gb = d.0.second ++ slot x v ∷ [] in
    let rb = two b (used b Gb) ra.1 in
    let da = drops_bind c (unused a d.0.first) ra.0 in
    let db = drops_bind c (unused b Gb) rb.0 in
    range_is c k rb.1 (shared c d.0.shares + (once c v + (binds c ra.0 + binds c rb.0))) _
    (let e = shares_bind c d.0.shares (n.Let i v A (drop_all (unused a d.0.first) ra.0) (drop_all (unused b Gb) rb.0)) in omega arith)
    (range_join c k v rb.1 _ _ (part_grows a b G k) (omega (arith, two_grows a Fa (v + 1), two_grows b (used b Gb) ra.1)) (part_range c a b G k)
    (range_join c v (v + 1) rb.1 _ _ (omega arith) (omega (arith, two_grows a Fa (v + 1), two_grows b (used b Gb) ra.1)) (range_once c v)
    (range_join c (v + 1) ra.1 rb.1 _ _ (two_grows a Fa (v + 1)) (two_grows b (used b Gb) ra.1) (two_range c a j Fa (v + 1) lv.1) (two_range c b (x + 1) (used b Gb) ra.1 lv.2))))
two_range c (n.Split i x p q a) j G k lv =
    let t = take_slot (free_in x a) x G k in
    let v = t.1 in
    let H = put x (slot p v ∷ slot q (v + 1) ∷ t.0.stay) G in
    let r = two a (used a H) (v + 2) in
    let da = drops_bind c (unused a H) r.0 in
    range_is c k r.1 (shared c t.0.shares + (once c v + once c (v + 1) + binds c r.0)) _
    (let e = shares_bind c t.0.shares (n.Split i t.0.name v (v + 1) (drop_all (unused a H) r.0)) in omega arith)
    (range_join c k v r.1 _ _ (take_grows (free_in x a) x G k) (omega (arith, two_grows a (used a H) (v + 2))) (take_range c (free_in x a) x G k)
    (range_join c v (v + 2) r.1 _ _ (omega arith) (two_grows a (used a H) (v + 2)) (range_two c v) (two_range c a (q + 1) (used a H) (v + 2) lv.3)))
two_range c (n.If i x a b) j G k lv =
    let again = free_in x a || free_in x b in
    let t = take_slot again x G k in
    let v = t.1 in
    let H = put x t.0.stay G in
    let ra = two a (used a H) v in
    let rb = two b (used b H) ra.1 in
    let da = drops_bind c (unused a H) ra.0 in
    let db = drops_bind c (unused b H) rb.0 in
    range_is c k rb.1 (shared c t.0.shares + (binds c ra.0 + binds c rb.0)) _
    (let e = shares_bind c t.0.shares (n.If i t.0.name (drop_all (unused a H) ra.0) (drop_all (unused b H) rb.0)) in omega arith)
    (range_join c k v rb.1 _ _ (take_grows again x G k) (omega (arith, two_grows a (used a H) v, two_grows b (used b H) ra.1)) (take_range c again x G k)
    (range_join c v ra.1 rb.1 _ _ (two_grows a (used a H) v) (two_grows b (used b H) ra.1) (two_range c a j (used a H) v lv.1) (two_range c b j (used b H) ra.1 lv.2)))
two_range c (n.CaseList i x a p q b) j G k lv =
    let again = free_in x a || free_in x b in
    let t = take_slot again x G k in
    let v = t.1 in
    let H = put x t.0.stay G in
    let I = put x (slot p v ∷ slot q (v + 1) ∷ t.0.stay) G in
    let ra = two a (used a H) (v + 2) in
    let rb = two b (used b I) ra.1 in
    let da = drops_bind c (unused a H) ra.0 in
    let db = drops_bind c (unused b I) rb.0 in
    range_is c k rb.1 (shared c t.0.shares + (once c v + once c (v + 1) + (binds c ra.0 + binds c rb.0))) _
    (let e = shares_bind c t.0.shares (n.CaseList i t.0.name (drop_all (unused a H) ra.0) v (v + 1) (drop_all (unused b I) rb.0)) in omega arith)
    (range_join c k v rb.1 _ _ (take_grows again x G k) (omega (arith, two_grows a (used a H) (v + 2), two_grows b (used b I) ra.1)) (take_range c again x G k)
    (range_join c v (v + 2) rb.1 _ _ (omega arith) (omega (arith, two_grows a (used a H) (v + 2), two_grows b (used b I) ra.1)) (range_two c v)
    (range_join c (v + 2) ra.1 rb.1 _ _ (two_grows a (used a H) (v + 2)) (two_grows b (used b I) ra.1) (two_range c a j (used a H) (v + 2) lv.1) (two_range c b (q + 1) (used b I) ra.1 lv.4))))
two_range c (n.CaseTree i x a p q r b) j G k lv =
    let again = free_in x a || free_in x b in
    let t = take_slot again x G k in
    let v = t.1 in
    let H = put x t.0.stay G in
    let I = put x (slot p v ∷ slot q (v + 1) ∷ slot r (v + 2) ∷ t.0.stay) G in
    let ra = two a (used a H) (v + 3) in
    let rb = two b (used b I) ra.1 in
    let da = drops_bind c (unused a H) ra.0 in
    let db = drops_bind c (unused b I) rb.0 in
    range_is c k rb.1 (shared c t.0.shares + (once c v + once c (v + 1) + once c (v + 2) + (binds c ra.0 + binds c rb.0))) _
    (let e = shares_bind c t.0.shares (n.CaseTree i t.0.name (drop_all (unused a H) ra.0) v (v + 1) (v + 2) (drop_all (unused b I) rb.0)) in omega arith)
    (range_join c k v rb.1 _ _ (take_grows again x G k) (omega (arith, two_grows a (used a H) (v + 3), two_grows b (used b I) ra.1)) (take_range c again x G k)
    (range_join c v (v + 3) rb.1 _ _ (omega arith) (omega (arith, two_grows a (used a H) (v + 3), two_grows b (used b I) ra.1)) (range_three c v)
    (range_join c (v + 3) ra.1 rb.1 _ _ (two_grows a (used a H) (v + 3)) (two_grows b (used b I) ra.1) (two_range c a j (used a H) (v + 3) lv.1) (two_range c b (r + 1) (used b I) ra.1 lv.5))))
two_range c (n.CaseOption i x a p b) j G k lv =
    let again = free_in x a || free_in x b in
    let t = take_slot again x G k in
    let v = t.1 in
    let H = put x t.0.stay G in
    let I = put x (slot p v ∷ t.0.stay) G in
    let ra = two a (used a H) (v + 1) in
    let rb = two b (used b I) ra.1 in
    let da = drops_bind c (unused a H) ra.0 in
    let db = drops_bind c (unused b I) rb.0 in
    range_is c k rb.1 (shared c t.0.shares + (once c v + (binds c ra.0 + binds c rb.0))) _
    (let e = shares_bind c t.0.shares (n.CaseOption i t.0.name (drop_all (unused a H) ra.0) v (drop_all (unused b I) rb.0)) in omega arith)
    (range_join c k v rb.1 _ _ (take_grows again x G k) (omega (arith, two_grows a (used a H) (v + 1), two_grows b (used b I) ra.1)) (take_range c again x G k)
    (range_join c v (v + 1) rb.1 _ _ (omega arith) (omega (arith, two_grows a (used a H) (v + 1), two_grows b (used b I) ra.1)) (range_once c v)
    (range_join c (v + 1) ra.1 rb.1 _ _ (two_grows a (used a H) (v + 1)) (two_grows b (used b I) ra.1) (two_range c a j (used a H) (v + 1) lv.1) (two_range c b (p + 1) (used b I) ra.1 lv.3))))
two_range c (n.Tick i m a) j G k lv = two_range c a j G k lv
two_range c (n.Share i x p q a) j G k lv = absurd lv
two_range c (n.Drop i x a) j G k lv = absurd lv

pub around_range : (c : ℕ) (o : n.Norm) (j : ℕ) (G : Slots) (k : ℕ) → Levels j o → InRange c k (around o (two o) G k).1 (binds c (around o (two o) G k).0)
around_range c o j G k lv = range_is c k (two o (used o G) k).1 _ _ (sym (drops_bind c (unused o G) (two o (used o G) k).0)) (two_range c o j (used o G) k lv)

pub numbered_range : (c : ℕ) (ps : List Parameter) (k : ℕ) → InRange c k (k + length ps) (times c (numbered ps k))
numbered_range c [] k = record { below = λ h. refl; above = λ h. refl; most = omega arith }
numbered_range c (p ∷ ps) k =
    let r = range_join c k (k + 1) (k + 1 + length ps) (once c k) (times c (numbered ps (k + 1))) (omega arith) (omega arith) (range_once c k) (numbered_range c ps (k + 1)) in
    record { below = r.below; above = λ h. r.above (omega arith); most = r.most }
