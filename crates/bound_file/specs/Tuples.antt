-- How the text of a tuple is read, byte by byte.
use Rattle.std.specs.Prelude.{◌≡◌, ℕ, nat_eq, Bool, true, false, not, ◌&&◌, ◌||◌, List, [], ◌∷◌, ◌++◌, cond, Option, Some, None, option_map}
use Rattle.raml_syntax.specs.Tree.{Text}
pub use Rattle.bound_file.specs.declared.tuple.Goal.{Goal}
pub use Rattle.bound_file.specs.declared.tuple.Goal.TheVariants.{Index, Entries, More, Byte}

-- what is still to be read once the goal has met the byte; None where it can't
abbrev pub begin_index : ℕ → Option (List Goal)
begin_index byte =
    cond (nat_eq byte 95) (Some [])
    (cond (nat_eq byte 40) (Some (Index ∷ Byte 44 ∷ Byte 32 ∷ Index ∷ Byte 41 ∷ []))
    (cond (nat_eq byte 91) (Some (Entries ∷ [])) None))

abbrev pub met : Goal → ℕ → Option (List Goal)
met Index byte = begin_index byte
met Entries byte = cond (nat_eq byte 93) (Some []) (option_map (λ goals. goals ++ More 93 ∷ []) (begin_index byte))
met (More close) byte = cond (nat_eq byte close) (Some []) (cond (nat_eq byte 44) (Some (Byte 32 ∷ Index ∷ More close ∷ [])) None)
met (Byte wanted) byte = cond (nat_eq byte wanted) (Some []) None

-- an entry of a list begins with the byte, or was seen before
abbrev pub seen_by : Goal → ℕ → Bool → Bool
seen_by Entries byte seen = seen || not (nat_eq byte 93)
seen_by goal byte seen = seen

abbrev pub after : Option (List Goal) → (List Goal → Bool) → Bool
after None read = false
after (Some goals) read = read goals

-- one after the other, the goals read the text; and an entry begins in it, or did before
abbrev pub reads : Bool → List Goal → Text → Bool
reads seen [] [] = seen
reads seen (goal ∷ goals) [] = false
reads seen [] (byte ∷ text) = false
reads seen (goal ∷ goals) (byte ∷ text) = after (met goal byte) (λ more. reads (seen_by goal byte seen) (more ++ goals) text)

-- nothing is left to be read, and an entry was seen
abbrev pub is_done : Bool → List Goal → Bool
is_done seen [] = seen
is_done seen (goal ∷ goals) = false

-- the text of a tuple that is not the zero tuple
abbrev pub is_tuple : Text → Bool
is_tuple [] = false
is_tuple (byte ∷ text) = nat_eq byte 60 && reads false (Index ∷ More 62 ∷ []) text

-- the goals on a stack, the next one first
abbrev pub next_first : List Goal → List Goal
next_first [] = []
next_first (goal ∷ goals) = next_first goals ++ goal ∷ []

-- the stack as it is once a goal has met a byte, where it can
abbrev pub Meets : Bool → Option (List Goal) → List Goal → List Goal → Type 0
Meets true (Some more) before after = next_first after ≡ more ++ next_first before
Meets false None before after = Unit {0}
Meets _ _ before after = ⊥
