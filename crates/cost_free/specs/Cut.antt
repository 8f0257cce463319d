-- Ways to cut a list, piece by piece.
use Rattle.std.specs.Prelude.{ℕ, List, ◌∷◌, map, flat_map}
use Rattle.base_poly.specs.Plain.{Plain}
use Rattle.cost_free.specs.Target.{pieces}

-- those whose first piece is that of one of these cuts in two, with so many pieces behind it
abbrev pub cut_pieces : ℕ → List (List Plain × List Plain) → List (List (List Plain))
cut_pieces n cs = flat_map (λ c. map (λ p. c.0 ∷ p) (pieces n c.1)) cs
