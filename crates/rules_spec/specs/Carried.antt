-- Walks over one kind of number, carried to another.
use Rattle.std.specs.Prelude.{◌≡◌, ℕ, List, map}
use Rattle.annot_types.specs.Rules.{Mode}
use Rattle.rules_spec.specs.Plan.{Plan}
use Rattle.rules_spec.specs.Numbers.{Numbers, Sides, Known, Hint, Results, Copies, Multiples, Condition, Walked}
use Rattle.rules_spec.specs.Walk.{Walk, walk}
use Rattle.rules_spec.specs.Tasks.{Job, given_conditions}

-- each entry is carried
module _ {E F : Type 0} (f : E → F) where
  abbrev pub sides_to : Sides E → Sides F
  sides_to s = record { args = map f s.args; result = map f s.result }

  abbrev pub known_to : Known E → Known F
  known_to G = record { scale = G.scale; budget = G.budget; group = map sides_to G.group; free = G.free; cost = G.cost }

  abbrev pub multiple_to : ℕ × E → ℕ × F
  multiple_to m = (m.0, f m.1)

  abbrev pub hint_to : Hint E → Hint F
  hint_to (Results rs) = Results (map (map f) rs)
  hint_to (Copies q) = Copies (map f q)
  hint_to (Multiples ms) = Multiples (map multiple_to ms)

  abbrev pub condition_to : Condition E → Condition F
  condition_to c = record { path = c.path; index = c.index; left = f c.left; right = f c.right }

  abbrev pub walked_to : Walked E → Walked F
  walked_to w = record { found = map condition_to w.found; left = map hint_to w.left }

  -- the second walk, of what is carried, is what the first one is carried to
  abbrev pub Agree : Walk E → Walk F → Type 0
  Agree w v = (mode : Mode) (path : List ℕ) (q r : List E) (hs : List (Hint E)) →
      v mode path (map f q) (map f r) (map hint_to hs) ≡ walked_to (w mode path q r hs)

-- It makes no difference whether entries are carried before a walk or behind it.
abbrev pub WalksCarry : {E F : Type 0} → Numbers E → Numbers F → (E → F) → Type 0
WalksCarry {E} A B f = (G : Known E) (e : Plan) → Agree f (walk A G e) (walk B (known_to f G) e)

-- the same of all conditions on what is given in the order of unknowns
abbrev pub GivenCarry : {E F : Type 0} → Numbers E → Numbers F → (E → F) → (ℕ → E) → Type 0
GivenCarry A B f give = (j : Job) → given_conditions B (λ u. f (give u)) j ≡ map (condition_to f) (given_conditions A give j)
