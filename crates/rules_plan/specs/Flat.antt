-- Walks whose contexts have a few lists and trees of scalars, and else scalars alone. A number says how many there are.
use Rattle.std.specs.Prelude.{ℕ, zero, suc, ◌+◌, ◌-◌, nat_le, Bool, true, ◌&&◌, List, [], ◌∷◌}
use Rattle.raml_syntax.specs.Tree.{Type', Integer, Boolean, ListOf, TreeOf}
use Rattle.normal_spec.specs.Norm as n
use Rattle.normal_spec.specs.Norm.{Norm}

-- Of a list or a tree of such elements. Where these are no scalars it counts as more than a context may have.
abbrev pub holder_of : Type' → ℕ
holder_of Integer = 1
holder_of Boolean = 1
holder_of _ = 11

abbrev pub holders : Type' → ℕ
holders Integer = 0
holders Boolean = 0
holders (ListOf A) = holder_of A
holders (TreeOf A) = holder_of A
holders _ = 11

abbrev pub all_holders : List Type' → ℕ
all_holders [] = 0
all_holders (A ∷ As) = holders A + all_holders As

-- how many tuples of degree at most d a context has with so many of them
abbrev pub flat_size : ℕ → ℕ → ℕ
flat_size n zero = 1
flat_size zero (suc d) = 1
flat_size (suc n) (suc d) = flat_size (suc n) d + flat_size n (suc d)

-- A walk through the form comes to at most so many more than its first context has.
abbrev pub is_flat : Norm → ℕ → Bool
is_flat (n.Let k x A a b) left = nat_le (holders A) left && (is_flat a left && is_flat b (left - holders A))
is_flat (n.Split k x y z a) left = is_flat a left
is_flat (n.If k x a b) left = is_flat a left && is_flat b left
is_flat (n.CaseList k x a h t b) left = is_flat a left && is_flat b left
is_flat (n.CaseTree k x a e y z b) left = nat_le 1 left && (is_flat a left && is_flat b (left - 1))
is_flat (n.CaseOption k x a y b) left = is_flat a left && is_flat b left
is_flat (n.Tick k i a) left = is_flat a left
is_flat (n.Share k x y z a) left = nat_le 1 left && is_flat a (left - 1)
is_flat (n.Drop k x a) left = is_flat a left
is_flat _ left = true
