-- The walks that are meant.
use Rattle.std.specs.Prelude.{ℕ, List, [], ◌∷◌, ◌++◌, slice_index_or}
use Rattle.annot_types.specs.Rules as r
use Rattle.rules_spec.specs.Plan as p
use Rattle.rules_spec.specs.Numbers as n
use Rattle.rules_spec.specs.Walk as w
use Rattle.rules_walk.specs.Read.{mode_of, known_of, each_from}
use Rattle.rules_walk.specs.declared.place.Place.{Place}

module _ {T : Type 0} (A : n.Numbers T) where
  -- from a place, with a path, an annotation of the context, and hints
  abbrev pub walked_at : Place T → p.Plan → List ℕ → List T → List (n.Hint T) → n.Walked T
  walked_at at e path q hs = w.walk A (known_of at.known.now) e (mode_of at.mode) path q at.result.now hs

  -- of a Let's bound form, whose plans are these, for each tuple from this one on
  abbrev pub each_at : Place T → p.Plans → ℕ → List p.Part → List (List T) → List ℕ → List T → List (n.Hint T) → n.Walked T
  each_at at es k parts results path q hs = each_from A at.known.now es k parts results (mode_of at.mode) path q hs

  -- for one of them
  abbrev pub part_at : Place T → p.Plans → p.Part → ℕ → List ℕ → List T → List (n.Hint T) → n.Walked T
  part_at at es part number path q hs =
      slice_index_or (w.walks A (known_of at.known.now) es) part.degree w.still (mode_of at.mode)
      (path ++ number ∷ []) (w.moved A part.there q) at.result.now hs

  -- the body of the function at this place of the group, with its signature
  abbrev pub body_walked : n.Known T → p.Plan → r.Mode → ℕ → List (n.Hint T) → n.Walked T
  body_walked G e mode k hs = let s = w.group_sides A G k in w.walk A G e mode (k ∷ []) s.args s.result hs
