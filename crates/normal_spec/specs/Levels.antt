-- Forms of step one: no variable hides another, and nothing is shared or dropped.
use Rattle.std.specs.Prelude.{◌<◌, ◌≤◌, ◌+◌, ℕ, List, [], ◌∷◌}
use Rattle.normal_spec.specs.Norm as n

abbrev pub AllBelow : ℕ → List ℕ → Type 0
AllBelow j [] = Unit {0}
AllBelow j (x ∷ xs) = (x < j) × AllBelow j xs

-- the variables in scope are below j, and each that is bound is above all in whose scope it is
abbrev pub Levels : ℕ → n.Norm → Type 0
Levels j (n.Var k x) = x < j
Levels j (n.Number k i) = Unit {0}
Levels j (n.Truth k b) = Unit {0}
Levels j (n.Nil k) = Unit {0}
Levels j (n.Leaf k) = Unit {0}
Levels j (n.Nothing k) = Unit {0}
Levels j (n.Arith k op x y) = (x < j) × (y < j)
Levels j (n.Compare k op x y) = (x < j) × (y < j)
Levels j (n.Not k x) = x < j
Levels j (n.Pair k x y) = (x < j) × (y < j)
Levels j (n.Cons k x y) = (x < j) × (y < j)
Levels j (n.Node k x y z) = (x < j) × (y < j) × (z < j)
Levels j (n.Just k x) = x < j
Levels j (n.Call k f xs) = AllBelow j xs
Levels j (n.Let k x A a b) = (j ≤ x) × Levels j a × Levels (x + 1) b
Levels j (n.Split k x p q a) = (x < j) × (j ≤ p) × (p < q) × Levels (q + 1) a
Levels j (n.If k x a b) = (x < j) × Levels j a × Levels j b
Levels j (n.CaseList k x a h t b) = (x < j) × Levels j a × (j ≤ h) × (h < t) × Levels (t + 1) b
Levels j (n.CaseTree k x a h l r b) = (x < j) × Levels j a × (j ≤ h) × (h < l) × (l < r) × Levels (r + 1) b
Levels j (n.CaseOption k x a w b) = (x < j) × Levels j a × (j ≤ w) × Levels (w + 1) b
Levels j (n.Tick k i a) = Levels j a
Levels j (n.Share k x p q a) = ⊥
Levels j (n.Drop k x a) = ⊥
