-- The numbers of a tuple that is made of the indices of another one.
use Rattle.std.specs.Prelude.{ℕ, zero, suc, not, cond, Bool, false, Option, None, Some, List, [], ◌∷◌, ◌++◌, ◌-◌, map, take, length}
use Rattle.std.specs.Prelude.{slice_get, slice_index_or}
use Rattle.std.specs.List.{position_or_len}
use Rattle.raml_syntax.specs.Tree.{Type'}
use Rattle.base_poly.specs.Plain.{alike}
use Rattle.base_poly.specs.Indices.{tuples_up_to}
use Rattle.tuple_ranks.specs.Columns.{Table, place, degree_at, up_to}

-- Which index of the other tuple, and a table of the numbers that its type's indices have here, where these are others.
abbrev pub Slot : Type 0
Slot = ℕ × Option (List ℕ)

abbrev pub renumbered : Option (List ℕ) → ℕ → ℕ
renumbered None n = n
renumbered (Some table) n = slice_index_or table n 0

abbrev pub seen_by : List ℕ → Slot → ℕ
seen_by ns s = renumbered s.1 (slice_index_or ns s.0 0)

abbrev pub picked : List Slot → List ℕ → List ℕ
picked slots ns = map (seen_by ns) slots

-- whether there is a mark, and it is the wanted one
abbrev pub chosen : Bool → Option Bool → Bool
chosen wanted None = false
chosen wanted (Some mark) = cond wanted mark (not mark)

-- of the items, the first of which has the mark at this place, those whose mark is wanted
abbrev pub half_items : {X : Type 0} → Bool → List Bool → ℕ → List X → List X
half_items w marks k [] = []
half_items w marks k (x ∷ xs) = cond (chosen w (slice_get marks k)) (x ∷ half_items w marks (suc k) xs) (half_items w marks (suc k) xs)

-- the same of the places themselves, so many from one on
abbrev pub half_slots : Bool → List Bool → ℕ → ℕ → List Slot
half_slots w marks k zero = []
half_slots w marks k (suc n) = cond (chosen w (slice_get marks k)) ((k, None) ∷ half_slots w marks (suc k) n) (half_slots w marks (suc k) n)

-- the numbers that the indices of one type have among those of another
abbrev pub renumbering : Type' → Type' → ℕ → List ℕ
renumbering A B d = map (λ x. position_or_len (alike x) (tuples_up_to (B ∷ []) d)) (tuples_up_to (A ∷ []) d)

abbrev pub table_between : Option Type' → Option Type' → ℕ → Option (List ℕ)
table_between (Some A) (Some B) d = Some (renumbering A B d)
table_between (Some A) None d = None
table_between None B d = None

-- of these places in the context As, the first of which stands for the variable of Bs at this place
abbrev pub slots_between : List Type' → List Type' → ℕ → ℕ → List ℕ → List Slot
slots_between As Bs d at [] = []
slots_between As Bs d at (p ∷ ps) = (p, table_between (slice_get As p) (slice_get Bs at) d) ∷ slots_between As Bs d (suc at) ps

-- the numbers as they are, so many from one place on
abbrev pub plain_slots : ℕ → ℕ → List Slot
plain_slots k zero = []
plain_slots k (suc n) = (k, None) ∷ plain_slots (suc k) n

-- Of the tuple with these numbers its degree, and where the tuples of another context stand behind it whose degree is
-- not too high: from the two contexts, both together, and the numbers of all tuples of the second.
abbrev pub behind_at : Table → Table → Table → List (List ℕ) → List ℕ → ℕ × List ℕ
behind_at first second whole rows js =
    let g = degree_at first (picked (plain_slots 0 (length first.columns)) js) in
    (g, map (λ ts. place whole (picked (plain_slots 0 (length whole.columns)) (js ++ ts))) (take (up_to second (second.degree - g)) rows))
