-- Numbers as entries of a certificate.
use Rattle.std.specs.Prelude.{◌+◌, ℕ, zero, suc, pos, List, [], ◌∷◌}
use Rattle.annot_types.specs.Certificate.{Entries}

-- the numbers that are not 0 by their places, the first of which is this one
abbrev pub listed : ℕ → List ℕ → Entries
listed place [] = []
listed place (zero ∷ ys) = listed (place + 1) ys
listed place (suc n ∷ ys) = (place, pos (suc n)) ∷ listed (place + 1) ys
