-- A shelf in memory.
use Rattle.std.specs.Prelude.{◌≡◌, ◌≢◌, ◌⊎◌, ℕ, Bool, false, List, ◌∷◌, Contains, None, cond}
use Rattle.raml_io.specs.Faults.{next_count}
use Rattle.raml_io.specs.MemStore.{held}
use Rattle.explain_files.specs.declared.shelf.ShelfFault.{ShelfFault}
use Rattle.explain_files.specs.declared.shelf.ShelfFault.TheVariants.{Taken, Failed, NoMemory}

pub record ShelfState : Type 0 where
  -- the names, and what each holds; of two with one name the first counts
  pub files : List (List ℕ × List ℕ)
  -- the numbers of the writes that fail
  pub failing : List ℕ
  -- the number of the next write, from 0
  pub writes : ℕ
  -- how many writes have failed
  pub faults : ℕ

-- a shelf to which nothing was written yet
abbrev pub new_shelf : List (List ℕ × List ℕ) → List ℕ → ShelfState
new_shelf files failing = record { files = files; failing = failing; writes = 0; faults = 0 }

-- after a file was left
abbrev pub after_leaving : ShelfState → List ℕ → List ℕ → ShelfState
after_leaving s name bytes = record s { files = (name, bytes) ∷ s.files; writes = next_count s.writes }

-- the count of faults after a write that left no file
abbrev pub count_after : ShelfFault → ℕ → ℕ
count_after Failed n = next_count n
count_after fault n = n

-- after a write that left no file
abbrev pub after_fault : ShelfFault → ShelfState → ShelfState
after_fault fault s = record s { writes = next_count s.writes; faults = count_after fault s.faults }

-- a file of that name is there, and is not to be written over
abbrev pub IsTaken : ShelfState → List ℕ → Bool → Type 0
IsTaken s name over = (over ≡ false) × (held s.files name ≢ None)

-- the next write fails
abbrev pub FailsWrite : ShelfState → Type 0
FailsWrite s = Contains s.failing s.writes
