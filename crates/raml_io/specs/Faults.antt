-- Counts of faults.
use Rattle.std.specs.Prelude.{◌≡◌, ℕ, ◌+◌, ◌-◌, ◌^◌, ◌<◌, ◌⊎◌, min}
use Rattle.raml_io.specs.declared.store.StoreFault.{StoreFault}
use Rattle.raml_io.specs.declared.store.StoreFault.TheVariants.{Failed, NoMemory}

-- the last value of a count, where it stands
abbrev pub last_count : ℕ
last_count = 2 ^ 64 - 1

-- the count after one more
abbrev pub next_count : ℕ → ℕ
next_count n = min (n + 1) last_count

-- the count of faults after a read that was refused: want of memory is no fault
abbrev pub count_after : StoreFault → ℕ → ℕ
count_after Failed n = next_count n
count_after NoMemory n = n

-- the count is greater than before, or stands at its last value
abbrev pub Rose : ℕ → ℕ → Type 0
Rose before now = (before < now) ⊎ (now ≡ last_count)
