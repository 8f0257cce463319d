-- Functions that have the same headers.
use Rattle.std.specs.Prelude.{◌≡◌, List, [], ◌∷◌}
use Rattle.raml_syntax.specs.Tree.{Parameter, Function, Prog}

-- parameters of the same names and types, in the same order
abbrev pub SameParameters : List Parameter → List Parameter → Type 0
SameParameters [] [] = Unit {0}
SameParameters (p ∷ ps) (q ∷ qs) = (p.name ≡ q.name) × (p.type ≡ q.type) × SameParameters ps qs
SameParameters _ _ = ⊥

-- the same name, parameters and result
abbrev pub SameHeader : Function → Function → Type 0
SameHeader g h = (g.name ≡ h.name) × SameParameters g.params h.params × (g.result ≡ h.result)

-- as many functions, in the same order, each with the same header
abbrev pub SameHeaders : Prog → Prog → Type 0
SameHeaders [] [] = Unit {0}
SameHeaders (g ∷ gs) (h ∷ hs) = SameHeader g h × SameHeaders gs hs
SameHeaders _ _ = ⊥
