-- Walks over the values of words.
use Rattle.std.specs.Prelude.{◌≡◌, ◌<◌, ◌≤◌, ℕ, ◌+◌, ◌*◌, ◌^◌, List, [], ◌∷◌, ◌++◌, length, slice_index_or}
use Rattle.raml_syntax.specs.Value.{Value, size}
use Rattle.base_poly.specs.Plain.{Plain, Unit'}
use Rattle.base_poly.specs.Base.{elements, base}
use Rattle.value_text.specs.declared.word.Word.{Word}
use Rattle.value_text.specs.declared.word.Cell.{Cell}
use Rattle.value_text.specs.Heap.{IsBelow}
use Rattle.value_text.specs.Held.{value_of, held}

-- the value of a word
abbrev pub value : List Cell → Word → Value
value cells word = value_of (held cells) word

-- the elements of the lists and trees that wait, the last of which is the next
abbrev pub waiting_elements : List Cell → List Word → List Value
waiting_elements cells [] = []
waiting_elements cells (w ∷ ws) = waiting_elements cells ws ++ elements (value cells w)

-- the word's cell is there, and its value has at most 2^20 cells
abbrev pub IsSmall : List Cell → Word → Type 0
IsSmall cells word = IsBelow (length cells) word × (size (value cells word) ≤ 2 ^ 20)

-- Sums over increasing positions, one for each front of a list index: with one element more, each takes in the next shorter one times the
-- entry's number there.
abbrev pub raised : List Plain → Value → List ℕ → ℕ → ℕ
raised is v sums m = slice_index_or sums (m + 1) 0 + slice_index_or sums m 0 * base (slice_index_or is m Unit') v

pub record AreRaised (is : List Plain) (v : Value) (old new : List ℕ) : Type 0 where
  pub first : slice_index_or new 0 0 ≡ slice_index_or old 0 0
  pub others : (m : ℕ) → m < length is → slice_index_or new (m + 1) 0 ≡ raised is v old m

-- and fit 128 bits
abbrev pub CanBeRaised : List Plain → Value → List ℕ → Type 0
CanBeRaised is v sums = (m : ℕ) → m < length is → raised is v sums m < 2 ^ 128
