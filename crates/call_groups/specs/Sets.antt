-- Sets of functions.
use Rattle.std.specs.Prelude.{◌≡◌, ℕ, ◌-◌, nat_eq, nat_lt, List, Bool, true, false, cond, not, ◌||◌, ◌&&◌}
use Rattle.std.specs.Int.{bit_at}
use Rattle.std.specs.List.{filter, range_with_len}
use Rattle.call_groups.specs.declared.function_set.FunctionSet.{FunctionSet}

-- a set, by whether a function is in it
abbrev pub Members : Type 0
Members = ℕ → Bool

abbrev pub has_bit : ℕ → ℕ → Bool
has_bit word place = nat_eq (bit_at word place) 1

-- the functions that the two words of bits have
unfoldable pub has : FunctionSet → Members
has s f = cond (nat_lt f 128) (has_bit s.low f) (nat_lt f 256 && has_bit s.high (f - 128))

abbrev pub none : Members
none f = false

abbrev pub with_one : ℕ → Members → Members
with_one g a f = a f || nat_eq f g

abbrev pub joined : Members → Members → Members
joined a b f = a f || b f

abbrev pub shared : Members → Members → Members
shared a b f = a f && b f

abbrev pub without : Members → Members → Members
without a b f = a f && not (b f)

abbrev pub IsSubset : Members → Members → Type 0
IsSubset a b = (f : ℕ) → a f ≡ true → b f ≡ true

-- the functions of the set that are below a number, ascending
abbrev pub below : ℕ → Members → List ℕ
below count a = filter a (range_with_len 0 count)
