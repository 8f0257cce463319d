-- What an annotation is worth at values, and how entries move it.
use Rattle.std.specs.Prelude.{◌≡◌, ℕ, suc, ◌+◌, ◌*◌, ◌==◌, if◌then◌else◌, List, [], ◌∷◌}
use Rattle.raml_syntax.specs.Tree.{Type'}
use Rattle.raml_syntax.specs.Value.{Value}
use Rattle.base_poly.specs.Base.{total, bases}
use Rattle.base_poly.specs.Indices.{index_list}
use Rattle.index_shift.specs.declared.entry.Entry.{Entry}

-- An annotation of a context gives each position a number. What it gives past the last position counts for nothing.
abbrev pub Annotation : Type 0
Annotation = ℕ → ℕ

-- the sum of what the items are worth, each times the number at its position
abbrev pub weighed : {X : Type 0} → (X → ℕ) → List X → Annotation → ℕ
weighed f [] q = 0
weighed f (x ∷ xs) q = q 0 * f x + weighed f xs (λ k. q (suc k))

-- the sum of the base polynomials of the context's tuples of degree at most d, each times its number
abbrev pub potential : List Type' → ℕ → Annotation → List Value → ℕ
potential As d q vs = weighed (λ t. bases t vs) (index_list As d) q

-- a position has what all the entries to it bring
abbrev pub moved : List Entry → Annotation → Annotation
moved es q k = total (λ (e : Entry). if e.to == k then e.times * q e.from else 0) es

-- whatever the annotation of the context As, its potential at vs is that of the moved one at values ws of the context Bs
abbrev pub Keeps : List Entry → ℕ → List Type' → List Value → List Type' → List Value → Type 0
Keeps es d As vs Bs ws = (q : Annotation) → potential Bs d (moved es q) ws ≡ potential As d q vs
