-- What the maps do to potential.
use Rattle.std.specs.Prelude.{◌≡◌, ◌≢◌, ◌≤◌, ◌<◌, ◌==◌, ℕ, if◌then◌else◌, List, [], All, length, slice_get, slice_index_or, Some}
use Rattle.raml_syntax.specs.Tree.{Type'}
use Rattle.raml_syntax.specs.Value.{Value, Has, Empty}
use Rattle.base_poly.specs.Plain.{Unit', deg}
use Rattle.base_poly.specs.Indices.{index_list}
use Rattle.base_poly.specs.Base.{bases}
use Rattle.index_shift.specs.Parts.{type_parts, value_parts}
use Rattle.index_shift.specs.Potential.{Annotation, weighed, potential, moved, Keeps}
use Rattle.index_shift.specs.Maps.{in_place, none, twice, Carry, entries, opening, leaving, sharing}
use Rattle.index_shift.specs.declared.entry.Entry.{Entry}

-- Among the values stands this one at the place, and it has the type there. Nothing is asked of the others.
pub record IsAt (As : List Type') (vs : List Value) (at : ℕ) (v : Value) : Type 0 where
  pub type : Type'
  pub there : slice_get As at ≡ Some type
  pub value : slice_get vs at ≡ Some v
  pub has : Has v type

-- A value at the place becomes its parts.
abbrev pub KeepsParts : List Entry → List Type' → ℕ → ℕ → Value → Type 0
KeepsParts es As at d v = (vs : List Value) → IsAt As vs at v → Keeps es d As vs (in_place at type_parts As) (in_place at value_parts vs)

-- A value at the place leaves.
abbrev pub KeepsRest : List Entry → List Type' → ℕ → ℕ → Value → Type 0
KeepsRest es As at d v = (vs : List Value) → IsAt As vs at v → Keeps es d As vs (in_place at none As) (in_place at none vs)

-- A value at the place leaves, and the tuples stay that have the zero index there.
abbrev pub KeepsZero : List Entry → List Type' → ℕ → ℕ → Value → Type 0
KeepsZero es As at d v = (vs : List Value) → IsAt As vs at v → (q : Annotation) →
    potential (in_place at none As) d (moved es q) (in_place at none vs) ≡ weighed
    (λ t. if deg (slice_index_or t at Unit') == 0 then bases t vs else 0) (index_list As d) q

-- The same where the potential may fall.
abbrev pub LowersRest : List Entry → List Type' → ℕ → ℕ → Value → Type 0
LowersRest es As at d v =
    (vs : List Value) → IsAt As vs at v → (q : Annotation) →
    potential (in_place at none As) d (moved es q) (in_place at none vs) ≤ potential As d q vs

-- A value twice becomes the value once.
abbrev pub KeepsShared : List Entry → List Type' → ℕ → ℕ → Value → Type 0
KeepsShared es As at d v = (vs : List Value) → IsAt As vs at v → Keeps es d (in_place at twice As) (in_place at twice vs) As vs

-- all values but the empty one, numbers and truths have parts
abbrev pub OpeningKeeps : Type 0
OpeningKeeps = (As : List Type') (at d : ℕ) (v : Value) → value_parts v ≢ [] → KeepsParts (opening As at d) As at d v

abbrev pub LeavingKeeps : Type 0
LeavingKeeps = (As : List Type') (at d : ℕ) → KeepsRest (leaving As at d) As at d Empty

abbrev pub LeavingKeepsZero : Type 0
LeavingKeepsZero = (As : List Type') (at d : ℕ) (v : Value) → KeepsZero (leaving As at d) As at d v

abbrev pub LeavingLowers : Type 0
LeavingLowers = (As : List Type') (at d : ℕ) (v : Value) → LowersRest (leaving As at d) As at d v

abbrev pub SharingKeeps : Type 0
SharingKeeps = (As : List Type') (at d : ℕ) (v : Value) → KeepsShared (sharing As at d) As at d v

-- An entry goes from a position of the first context to one of the second.
pub record IsBetween (As Bs : List Type') (d : ℕ) (e : Entry) : Type 0 where
  pub from : e.from < length (index_list As d)
  pub to : e.to < length (index_list Bs d)

abbrev pub EntriesAreBetween : Type 0
EntriesAreBetween = (c : Carry) (As Bs : List Type') (d : ℕ) → All (IsBetween As Bs d) (entries c As Bs d)
