-- How large types are, for the measures of what goes down them.
use Rattle.std.proofs.Common.{◌≡◌, ℕ, ◌+◌, ◌*◌, ◌<◌, ◌≤◌, ap, arith}
use Rattle.raml_syntax.specs.Tree.{Type', Integer, Boolean, PairOf, ListOf, TreeOf, OptionOf}

abbrev pub weight : Type' → ℕ
weight Integer = 1
weight Boolean = 1
weight (PairOf A B) = 1 + (weight A + weight B)
weight (ListOf A) = 1 + weight A
weight (TreeOf A) = 1 + weight A
weight (OptionOf A) = 1 + weight A

-- the parts of a type are so much smaller that 2^32 numbers have room between
pub pair_falls : (T A B : Type') (t : ℕ) → T ≡ PairOf A B → 8589934592 * weight T ≤ t → 8589934592 * (weight A + weight B) + 1 < t
pair_falls T A B t e le = let w : weight T ≡ 1 + (weight A + weight B) = ap weight e in omega (arith, w, le)

pub list_falls : (T A : Type') (t : ℕ) → T ≡ ListOf A → 8589934592 * weight T ≤ t → 8589934592 * weight A + 2 < t
list_falls T A t e le = let w : weight T ≡ 1 + weight A = ap weight e in omega (arith, w, le)

pub tree_falls : (T A : Type') (t n : ℕ) → T ≡ TreeOf A → n < 4294967296 → 8589934592 * weight T ≤ t → 8589934592 * weight A + (1 + n) < t
tree_falls T A t n e few le = let w : weight T ≡ 1 + weight A = ap weight e in omega (arith, w, le, few)

pub option_falls : (T A : Type') (t : ℕ) → T ≡ OptionOf A → 8589934592 * weight T ≤ t → 8589934592 * weight A + 1 < t
option_falls T A t e le = let w : weight T ≡ 1 + weight A = ap weight e in omega (arith, w, le)
