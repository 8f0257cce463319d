-- The binding of a name, and all its uses.
use Rattle.std.specs.Prelude.{ℕ, ◌+◌, nat_eq, nat_le, List, [], ◌∷◌, ◌++◌, cond, Bool, false, not, ◌&&◌, Option, Some, None, length}
use Rattle.explain_scopes.specs.Scopes.{Occurrence}

-- bytes of a text, from one on and before another
pub record Part : Type 0 where
  pub start : ℕ
  pub end : ℕ

abbrev pub part : ℕ → ℕ → Part
part at long = record { start = at; end = at + long }

abbrev pub part_of : Occurrence → Part
part_of o = part o.at (length o.name)

-- the byte meets the name: it is one of its bytes, or stands just behind
abbrev pub meets : ℕ → Occurrence → Bool
meets offset o = nat_le o.at offset && nat_le offset (o.at + length o.name)

abbrev pub met_at : ℕ → List Occurrence → Option Occurrence
met_at offset [] = None
met_at offset (o ∷ os) = cond (meets offset o) (Some o) (met_at offset os)

abbrev pub is_place : ℕ → Option ℕ → Bool
is_place p None = false
is_place p (Some q) = nat_eq q p

-- it means the binding at this place, and is another name
abbrev pub is_use : ℕ → Occurrence → Bool
is_use p o = is_place p o.binding && not (nat_eq o.at p)

abbrev pub use_of : ℕ → Occurrence → List Part
use_of p o = cond (is_use p o) (part_of o ∷ []) []

-- the names that mean it, in the order of the text
abbrev pub uses : ℕ → List Occurrence → List Part
uses p [] = []
uses p (o ∷ os) = use_of p o ++ uses p os

-- parts of a text that name one thing: where it is bound, and its uses
pub record Named : Type 0 where
  pub binding : Part
  pub uses : List Part

-- what a name with this binding names
abbrev pub named_as : List Occurrence → ℕ → Option ℕ → Option Named
named_as os long None = None
named_as os long (Some p) = Some (record { binding = part p long; uses = uses p os })

abbrev pub named_by : List Occurrence → Option Occurrence → Option Named
named_by os None = None
named_by os (Some o) = named_as os (length o.name) o.binding

-- what the name names that the byte meets; none where it meets no name, or one that is not bound
abbrev pub named : ℕ → List Occurrence → Option Named
named offset os = named_by os (met_at offset os)
