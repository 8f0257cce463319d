-- A store in memory.
use Rattle.std.specs.Prelude.{◌≡◌, ℕ, ◌⊎◌, List, [], ◌∷◌, map, Contains, Some, None, if◌then◌else◌, String, Vec, string_bytes}
use Rattle.std.specs.Str.{bytes_eq}
use Rattle.std.specs.declared.alloc.Global.{Global}
use Rattle.raml_io.specs.declared.store.StoreFault.{StoreFault}
use Rattle.raml_io.specs.Faults.{next_count, count_after}
use Rattle.raml_io.specs.Files.{Files}

pub record StoreState : Type 0 where
  -- the names, and what each holds
  pub files : List (List ℕ × List ℕ)
  -- the numbers of the reads that fail
  pub failing : List ℕ
  -- the number of the next read, from 0
  pub reads : ℕ
  -- how many reads have failed
  pub faults : ℕ

-- the names and the bytes of files
abbrev pub listed : List (String Global × Vec ℕ Global) → List (List ℕ × List ℕ)
listed = map (λ f. (string_bytes f.0, f.1.items))

-- what a name holds: the bytes of the first file with that name
abbrev pub held : List (List ℕ × List ℕ) → Files
held [] name = None
held (f ∷ fs) name = if bytes_eq f.0 name then Some f.1 else held fs name

-- a store that was not read yet
abbrev pub new_store : List (List ℕ × List ℕ) → List ℕ → StoreState
new_store files failing = record { files = files; failing = failing; reads = 0; faults = 0 }

-- the next read fails, if it is of this name
abbrev pub FailsRead : StoreState → List ℕ → Type 0
FailsRead s name = Contains s.failing s.reads ⊎ (held s.files name ≡ None)

-- after a read without a fault
abbrev pub after_read : StoreState → StoreState
after_read s = record s { reads = next_count s.reads }

-- after a read that was refused
abbrev pub after_refusal : StoreFault → StoreState → StoreState
after_refusal fault s =
    record s { reads = next_count s.reads; faults = count_after fault s.faults }
