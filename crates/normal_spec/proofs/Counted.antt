-- The first form that counts stays first.
use Rattle.std.proofs.Common.{◌≡◌, ◌<◌, ℕ, List, [], ◌∷◌, refl, arith}
use Rattle.std.specs.Prelude.{◌||◌}
use Rattle.normal_spec.specs.Norm as n
use Rattle.normal_spec.specs.Norm.{carries, nodes_of}
use Rattle.normal_spec.specs.Levels.{Levels}
use Rattle.normal_spec.specs.Two.{free_in, Shared, Slots, share_all, drop_all, unused, used, take_slot, take_all, part, of_one, around, two}
use Rattle.normal_spec.specs.Uses.{first_nodes}

pub counts_carries : (m : ℕ) (e : n.Norm) → 0 < m → 0 < nodes_of (carries m e)
counts_carries m (n.Var k x) lt = omega arith
counts_carries m (n.Number k i) lt = omega arith
counts_carries m (n.Truth k b) lt = omega arith
counts_carries m (n.Nil k) lt = omega arith
counts_carries m (n.Leaf k) lt = omega arith
counts_carries m (n.Nothing k) lt = omega arith
counts_carries m (n.Arith k op x y) lt = omega arith
counts_carries m (n.Compare k op x y) lt = omega arith
counts_carries m (n.Not k x) lt = omega arith
counts_carries m (n.Pair k x y) lt = omega arith
counts_carries m (n.Cons k x y) lt = omega arith
counts_carries m (n.Node k x y z) lt = omega arith
counts_carries m (n.Just k x) lt = omega arith
counts_carries m (n.Call k f xs) lt = omega arith
counts_carries m (n.Let k x A a b) lt = omega arith
counts_carries m (n.Split k x p q a) lt = omega arith
counts_carries m (n.If k x a b) lt = omega arith
counts_carries m (n.CaseList k x a h t b) lt = omega arith
counts_carries m (n.CaseTree k x a h l r b) lt = omega arith
counts_carries m (n.CaseOption k x a w b) lt = omega arith
counts_carries m (n.Tick k i a) lt = omega arith
counts_carries m (n.Share k x p q a) lt = omega arith
counts_carries m (n.Drop k x a) lt = omega arith

shares_first : (ss : List Shared) (m : n.Norm) → first_nodes (share_all ss m) ≡ first_nodes m
shares_first [] m = refl
shares_first (s ∷ ss) m = shares_first ss m

drops_first : (G : Slots) (m : n.Norm) → first_nodes (drop_all G m) ≡ first_nodes m
drops_first [] m = refl
drops_first (s ∷ G) m = drops_first G m

-- operands are as many as they were
two_first : (o : n.Norm) (j : ℕ) (G : Slots) (k : ℕ) → Levels j o → first_nodes (two o G k).0 ≡ nodes_of o
two_first (n.Number i v) j G k lv = refl
two_first (n.Truth i b) j G k lv = refl
two_first (n.Nil i) j G k lv = refl
two_first (n.Leaf i) j G k lv = refl
two_first (n.Nothing i) j G k lv = refl
two_first (n.Var i x) j G k lv = shares_first (take_all (x ∷ []) G k).0.shares (of_one (n.Var i) (take_all (x ∷ []) G k).0.names)
two_first (n.Arith i op x y) j G k lv = shares_first (take_all (x ∷ y ∷ []) G k).0.shares _
two_first (n.Compare i op x y) j G k lv = shares_first (take_all (x ∷ y ∷ []) G k).0.shares _
two_first (n.Not i x) j G k lv = shares_first (take_all (x ∷ []) G k).0.shares (of_one (n.Not i) (take_all (x ∷ []) G k).0.names)
two_first (n.Pair i x y) j G k lv = shares_first (take_all (x ∷ y ∷ []) G k).0.shares _
two_first (n.Cons i x y) j G k lv = shares_first (take_all (x ∷ y ∷ []) G k).0.shares _
two_first (n.Node i x y z) j G k lv = shares_first (take_all (x ∷ y ∷ z ∷ []) G k).0.shares _
two_first (n.Just i x) j G k lv = shares_first (take_all (x ∷ []) G k).0.shares (of_one (n.Just i) (take_all (x ∷ []) G k).0.names)
two_first (n.Call i f xs) j G k lv = shares_first (take_all xs G k).0.shares _
two_first (n.Let i x A a b) j G k lv = shares_first (part a b G k).0.shares _
two_first (n.Split i x p q a) j G k lv = shares_first (take_slot (free_in x a) x G k).0.shares _
two_first (n.If i x a b) j G k lv = shares_first (take_slot (free_in x a || free_in x b) x G k).0.shares _
two_first (n.CaseList i x a h t b) j G k lv = shares_first (take_slot (free_in x a || free_in x b) x G k).0.shares _
two_first (n.CaseTree i x a h l r b) j G k lv = shares_first (take_slot (free_in x a || free_in x b) x G k).0.shares _
two_first (n.CaseOption i x a w b) j G k lv = shares_first (take_slot (free_in x a || free_in x b) x G k).0.shares _
two_first (n.Tick i m a) j G k lv = refl
two_first (n.Share i x p q a) j G k lv = absurd lv
two_first (n.Drop i x a) j G k lv = absurd lv

pub counts_around : (o : n.Norm) (j : ℕ) (G : Slots) (k : ℕ) → Levels j o → 0 < nodes_of o → 0 < first_nodes (around o (two o) G k).0
counts_around o j G k lv lt =
    let drops = drops_first (unused o G) (two o (used o G) k).0 in
    let first = two_first o j (used o G) k lv in
    omega (arith, drops, first)
